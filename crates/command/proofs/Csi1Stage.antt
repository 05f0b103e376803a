-- The stages of CSI1: what each return answers.
use Prim.Native.Nat.{ℕ, ◌≤◌, ◌<◌}
use mathlib.Core.Path.{◌≡◌, subst}
use mathlib.Core.Logic.{inl, inr}
use mathlib.Core.List.{List, ◌++◌}
use native.Mathlib.Omega.{arith}
use lib.ListN.{length, take, drop}
use Rattle.std.specs.Prelude.{Err}
use Rattle.command_sides.specs.declared.LineFault.{LineFault}
use Rattle.command_sides.specs.declared.LineFault.TheVariants as Fault
use Rattle.command.specs.Condensed.{raw_limit, line_limit, condensed, TooLong}
use Rattle.command.specs.Csi1.{Csi1}
use Rattle.command.specs.Csi1 as One
use Rattle.command.specs.Laid.{CondensedTo}
use Rattle.command.specs.Judged.{judgement_in, Judged, LineWritten}
use Rattle.command.specs.Judged as Q
use Rattle.command.specs.Condensing.{Condensing, condensing_in, condensing_fault}
use Rattle.command.specs.Condensing as C

-- a condensed line for which there is room

pub written_fault : {line : List ℕ} (buffer : List ℕ) (fault : LineFault) → Judged line (judgement_in (Err fault))
    → LineWritten line buffer (condensing_in (Err (condensing_fault fault))) buffer
written_fault buffer (Fault.Misread place) (Q.Judged.wrong placed) = Q.LineWritten.wrong placed
written_fault buffer Fault.TooLarge (Q.Judged.large over) = Q.LineWritten.large over

pub written_right : {line part : List ℕ} (buffer : List ℕ) → Judged line Q.Right → part ≡ line → LineWritten line buffer (C.Accepted (length line)) (part ++ drop (length line) buffer)
written_right buffer (Q.Judged.right read) is = rw is (Q.LineWritten.written read)

pub raw_long : (line buffer : List ℕ) → raw_limit < length line → Csi1 line buffer C.TooLong buffer
raw_long line buffer over = One.Csi1.long (inl over)

module _ {line characters : List ℕ} {end : ℕ} (buffer : List ℕ) (laid : CondensedTo line characters end) where
  pub condensed_long : line_limit < end → Csi1 line buffer C.TooLong buffer
  condensed_long over = One.Csi1.long (inr (omega (arith, laid.long)))

  module _ (raw : length line ≤ raw_limit) (few : end ≤ line_limit) where
    not_long : TooLong line → ⊥
    not_long (inl over) = omega arith
    not_long (inr over) = omega (arith, laid.long)

    pub no_room : length buffer < end → Csi1 line buffer C.NoRoom buffer
    no_room short = One.Csi1.short not_long (omega (arith, laid.long))

    by_line : (answer : Condensing) (after : List ℕ) → length (condensed line) ≤ length buffer → LineWritten (condensed line) buffer answer after
        → Csi1 line buffer answer after
    by_line answer after room (Q.LineWritten.wrong placed) = One.Csi1.wrong not_long room placed
    by_line answer after room (Q.LineWritten.large over) = One.Csi1.large not_long room over
    by_line answer after room (Q.LineWritten.written read) = One.Csi1.accepted not_long room read

    pub line_written : {answer : Condensing} {after : List ℕ} → end ≤ length buffer → LineWritten (take end characters) buffer answer after
        → Csi1 line buffer answer after
    line_written {answer} {after} room done =
        by_line answer after (omega (arith, laid.long)) (subst (λ (l : List ℕ). LineWritten l buffer answer after) laid.laid done)
