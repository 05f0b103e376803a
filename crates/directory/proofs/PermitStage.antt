-- 6 and 14 as DELET and RENAM have them: what the code judges at each of its returns, and what the two add to the rows in front of them.
use Prim.Native.Nat.{ℕ}
use mathlib.Core.Path.{◌≡◌, sym, ap, ◌∙◌}
use mathlib.Core.Bool.{Bool, true, false, not}
use mathlib.Core.List.{List, ◌++◌}
use native.Mathlib.Omega.{arith}
use Rattle.answers.specs.Refusals.{Row, first_of}
use Rattle.answers.specs.Stage.{Verdict}
use Rattle.answers.specs.Stage.{Clear, Refused as Stopped}
use Rattle.answers.specs.Stage.{verdict_of}
use Rattle.answers.proofs.Refusals.{refuse, pass, clear, coded, behind_refused, behind_clear}
use Rattle.answers.proofs.Stage.{makes_clear, makes_refused, told_clear, told_refused}
use Rattle.pack.specs.declared.Geometry.{Geometry}
use Rattle.pack.specs.declared.Entry.{Entry}
use Rattle.pack.specs.declared.Key.{Key}
use Rattle.asking.specs.declared.Right.{Right}
use Rattle.asking.specs.AskedStage.{Asked}
use Rattle.asking.specs.AskedStage.{File, Refused}
use Rattle.asking.specs.RightsTest.{may}
use Rattle.asking.specs.OpensTest.{is_open}
use Rattle.asking.specs.Asked.{file_of}
use Rattle.asking.specs.AskedStage.{stage_of}
use Rattle.asking.proofs.AskedStage.{Given, stage_refuses, stage_gives, stage_is_refused, stage_is_file}
use Rattle.directory.specs.PermitRows.{permit_rows}

module _ (right : Right) (caller : ℕ) (x : Entry) (given : may right caller x.uic x.protect ≡ true) (busy : Bool) (is : busy ≡ is_open x) where
  pub permit_open : busy ≡ true → Stopped 0o14 ≡ verdict_of (permit_rows right caller x)
  permit_open opened = makes_refused _ (sym (pass _ _ (ap not given) ∙ refuse _ (sym is ∙ opened))) (λ zero. omega (arith, zero))

  pub permit_clear : busy ≡ false → Clear ≡ verdict_of (permit_rows right caller x)
  permit_clear closed = makes_clear _ (sym (pass _ _ (ap not given) ∙ (pass _ _ (sym is ∙ closed) ∙ clear)))

-- behind rows of which none has code 0
module _
    (front : List Row)
    (codes : coded front ≡ true)
    (img : List ℕ)
    (key : Key)
    (right : Right)
    (caller : ℕ)
    (asked : Asked)
    (is : asked ≡ stage_of front img key) where
  abbrev all : List Row
  all = front ++ permit_rows right caller (file_of img key)

  pub permitted_refused : (code : ℕ) → asked ≡ Refused code → asked ≡ stage_of all img key
  permitted_refused code told =
      let r = stage_is_refused front img key code (sym is ∙ told) in
      told ∙ stage_refuses all img key (record { first = behind_refused _ front r.first r.not_zero; not_zero = r.not_zero })

  module _ (g : Geometry) (e : ℕ) (x : Entry) (told : asked ≡ File g e x) (verdict : Verdict) (judged : verdict ≡ verdict_of (permit_rows right caller x)) where
    given : Given front img key g e x
    given = stage_is_file front img key g e x (sym is ∙ told)

    decides : first_of all ≡ first_of (permit_rows right caller x)
    decides = behind_clear _ front codes given.clear ∙ ap (λ (y : Entry). first_of (permit_rows right caller y)) given.file

    pub permitted_stopped : (code : ℕ) → verdict ≡ Stopped code → Refused code ≡ stage_of all img key
    permitted_stopped code told-so =
        let r = told_refused (permit_rows right caller x) verdict judged code told-so in
        stage_refuses all img key (record { first = decides ∙ r.first; not_zero = r.never })

    pub permitted_passed : verdict ≡ Clear → File g e x ≡ stage_of all img key
    permitted_passed told-so =
        let none = told_clear (permit_rows right caller x) verdict judged told-so in
        stage_gives all img key (record { clear = decides ∙ none; measures = given.measures; number = given.number; file = given.file })
