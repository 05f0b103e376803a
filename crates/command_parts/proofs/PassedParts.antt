-- A specification whose parts were passed over one after the other.
use Prim.Native.Nat.{ℕ}
use mathlib.Core.Path.{◌≡◌, sym, ap, ◌∙◌}
use mathlib.Core.Bool.{Bool, ◌&&◌}
use mathlib.Core.List.{List}
use mathlib.Core.Option.{Option}
use Rattle.command_grammar.specs.Parsed.{Uic, Switch}
use Rattle.command_grammar.specs.Keeps.{uic_keeps, specification_keeps}
use Rattle.command_grammar.specs.Reader.{Res, ok, mapped, from, Head, device, head, mk_tail, mk_specification, specification}
use Rattle.command_grammar.proofs.ReaderPlaces.{from_seq, from_seq_no}
use Rattle.command_cursor.specs.declared.Cursor.{Cursor}
use Rattle.command_cursor.specs.Part as P
use Rattle.command_parts.specs.Passed.{passed, passing, unit_of_device, keeps_of, brackets, switches, tail}
use Rattle.command_parts.specs.Passing.{Passing}
use Rattle.command_parts.specs.Passing as W
use Rattle.command_parts.proofs.Passed.{passed_ok, passed_no, passing_ok, passing_no, passing_not}
use Rattle.command_parts.proofs.MadeFront.{unit_kept}

all_kept : {a b c d : Bool} → a ≡ c → b ≡ d → (a && b) ≡ (c && d)
all_kept p q = rw (p, q)

-- the parts are read one after the other
module _ (s : List ℕ) (i : ℕ) {h : Head} {a : ℕ} (front : from head s i ≡ ok h a) where
  behind_head : from specification s i ≡ mapped (mk_specification h) (from tail s a)
  unfolding specification
  behind_head = from_seq mk_specification head tail s i h a front

  behind_uic : {u : Option Uic} {b : ℕ} → from brackets s a ≡ ok u b → from specification s i ≡ mapped (mk_specification h) (mapped (mk_tail u) (from switches s b))
  behind_uic {u} {b} d = behind_head ∙ ap (mapped (mk_specification h)) (from_seq mk_tail brackets switches s a u b d)

module _ (s : List ℕ) (i : ℕ) where
  pub no_head : (p : ℕ) → passed (from head s i) ≡ P.Refused p → W.Refused p ≡ passing specification_keeps (from specification s i)
  unfolding specification
  no_head p h = passing_not mk_specification head tail s i specification_keeps (passed_no p (from head s i) h)

  module _ (a : Cursor) (h : passed (from head s i) ≡ P.Read a) where
    pub no_uic : (p : ℕ) → passing uic_keeps (from brackets s a.at) ≡ W.Refused p → W.Refused p ≡ passing specification_keeps (from specification s i)
    unfolding passing
    no_uic p d =
        let x = passed_ok a (from head s i) h in
        rw (behind_head s i x.1, from_seq_no mk_tail brackets switches s a.at p (passing_no uic_keeps p (from brackets s a.at) d))

    module _ (b : Cursor) (keeps : Bool) (d : passing uic_keeps (from brackets s a.at) ≡ W.Read b keeps) where
      pub no_switch : (p : ℕ) → passed (from switches s b.at) ≡ P.Refused p → W.Refused p ≡ passing specification_keeps (from specification s i)
      unfolding passing
      no_switch p c =
          let x = passed_ok a (from head s i) h in
          let y = passing_ok uic_keeps b keeps (from brackets s a.at) d in
          rw (behind_uic s i x.1 y.1, passed_no p (from switches s b.at) c)

      pub all_parts : {found : Passing} → found ≡ passing unit_of_device (from device s i) → (next : Cursor) → passed (from switches s b.at) ≡ P.Read next
          → {unit : Bool} → unit ≡ keeps_of found → W.Read next (unit && keeps) ≡ passing specification_keeps (from specification s i)
      unfolding passing
      all_parts is next c kept =
          let x = passed_ok a (from head s i) h in
          let y = passing_ok uic_keeps b keeps (from brackets s a.at) d in
          let w = passed_ok next (from switches s b.at) c in
          let read = behind_uic s i x.1 y.1 ∙ ap (λ (r : Res (List Switch)). mapped (mk_specification x.0) (mapped (mk_tail y.0) r)) w.1 in
          ap (W.Read next) (all_kept (kept ∙ unit_kept s i a.at is x.1) y.2) ∙ sym (ap (passing specification_keeps) read)
