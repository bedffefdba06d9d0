-- What the check's own functions give, on the way to `is_sound` of `rules`.
pub mod Numbered
