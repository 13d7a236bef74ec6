-- What a run of fields comes to.
use Rattle.std.specs.Prelude.{ℕ, ◌+◌, ◌*◌, Bool, cond, List, [], ◌∷◌, length, Ok, Err, Result, nat_le, nat_lt}
use Rattle.codec.specs.Words.{written}
use Rattle.files.specs.States.{State}
use Rattle.run.specs.declared.play.Stop.{Stop}
use Rattle.run.specs.declared.play.Stop.TheVariants.{CutShort, ReportFull, RunTooLong, WorkspaceTooSmall}
use Rattle.runfile.specs.Faults.{result_number, result_detail}
use Rattle.run.specs.Fields.{Outcome, known, performed}
use Rattle.runfile.specs.Items.{Item, field, rump, items}
use Rattle.runfile.specs.Report.{line_of}

-- 0 where all fields have run, 17 where the last is cut short, 18 where the run is too long, the workspace too small, or the report too
-- small for the next line
abbrev pub stop_number : Stop → ℕ
stop_number CutShort = 17
stop_number ReportFull = 18
stop_number RunTooLong = 18
stop_number WorkspaceTooSmall = 18

abbrev pub end_number : Result (Unit {0}) Stop → ℕ
end_number (Ok u) = 0
end_number (Err stop) = stop_number stop

-- lines written, how the run ended, the pack and the report then
pub record Played : Type 0 where
  pub lines : ℕ
  pub end : Result (Unit {0}) Stop
  pub pack : State
  pub report : List ℕ

abbrev pub played : ℕ → Result (Unit {0}) Stop → State → List ℕ → Played
played lines end pack report = record { lines = lines; end = end; pack = pack; report = report }

-- whether the report has room for one line more
abbrev pub room : ℕ → List ℕ → Bool
room lines report = nat_le (20 * lines + 20) (length report)

-- the tag that a line shows: 00 where it is unknown
abbrev pub shown_tag : ℕ → ℕ
shown_tag tag = cond (known tag) tag 0

-- the report with the line of one field more
abbrev pub reported : ℕ → List ℕ → ℕ → Outcome → List ℕ
reported lines report tag o =
    written report (20 * lines) (line_of (lines + 1) (shown_tag tag) (result_number o.answer) (result_detail o.answer))

-- field by field: before each, room for its line, then whether it is whole
unfoldable pub play : State → ℕ → List ℕ → List Item → Played
play s lines report [] = played lines (Ok tt) s report
play s lines report (rump ∷ more) = played lines (Err (cond (room lines report) CutShort ReportFull)) s report
play s lines report (field tag body ∷ more) =
    cond (room lines report)
    (play (performed s tag body).after (lines + 1) (reported lines report tag (performed s tag body)) more)
    (played lines (Err ReportFull) s report)

-- RUN: the run's length and the workspace first of all
unfoldable pub ran : State → List ℕ → ℕ → List ℕ → Played
ran s run workspace report =
    cond (nat_lt 262144 (length run))
    (played 0 (Err RunTooLong) s report)
    (cond (nat_lt workspace 32768) (played 0 (Err WorkspaceTooSmall) s report) (play s 0 report (items run)))
