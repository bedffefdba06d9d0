-- What a change of all lines does, and what placing comes to in a machine itself, as definitions over the rules.
-- Assumes nothing.
pub mod Change
pub mod Room
