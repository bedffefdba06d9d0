-- Document 01's exact trace, and its report: "The report of this trace is exact".
-- Assumes nothing.
use Prim.Native.String.{String, ◌++◌}
use Rattle.std.specs.Prelude.{◌≡◌, codes}
use Rattle.play.specs.Play.{report_of}
use Rattle.play.specs.Buffer.{joined}

abbrev pub exact_trace : String
exact_trace =
    "caches=2\n"
    ++ "op=store cache=0 vid=1 at=5 data=10\n"
    ++ "op=load cache=1 vid=2 at=5 data=0\n"
    ++ "op=load cache=1 vid=0 at=5 data=0\n"
    ++ "op=commit cache=0 vid=1 at=0 data=0\n"
    ++ "op=load cache=1 vid=0 at=5 data=0\n"
    ++ "op=store cache=0 vid=2 at=5 data=20\n"
    ++ "op=load cache=0 vid=3 at=5 data=0\n"
    ++ "op=store cache=1 vid=2 at=5 data=21\n"
    ++ "op=load cache=1 vid=0 at=5 data=0\n"
    ++ "op=commit cache=0 vid=3 at=0 data=0\n"

abbrev pub exact_report : String
exact_report =
    "step=1 answer=done data=0 lcvid=0\n"
    ++ "step=2 answer=value data=10 lcvid=0\n"
    ++ "step=3 answer=value data=0 lcvid=0\n"
    ++ "step=4 answer=done data=0 lcvid=1\n"
    ++ "step=5 answer=value data=10 lcvid=1\n"
    ++ "step=6 answer=done data=0 lcvid=1\n"
    ++ "step=7 answer=value data=20 lcvid=1\n"
    ++ "step=8 answer=misspec data=0 lcvid=1\n"
    ++ "step=9 answer=value data=10 lcvid=1\n"
    ++ "step=10 answer=refused-8 data=0 lcvid=1\n"

-- byte for byte
unfoldable pub Exact : Type 0
Exact = joined (report_of (codes exact_trace)) ≡ codes exact_report
