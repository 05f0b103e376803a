-- The answer for the specification that stands at a place: the room that its switches need, and what is given.
use Prim.Native.Nat.{ℕ, ◌*◌, ◌≤◌}
use mathlib.Core.Path.{◌≡◌, sym, ap, ◌∙◌, subst}
use mathlib.Core.Bool.{Bool, true, false}
use mathlib.Core.List.{List, ◌++◌}
use native.Mathlib.Omega.{arith}
use borrow.Author.Tests.{le-ltb, ltb-true, ltb-false}
use lib.Dec.{ltb}
use lib.ListN.{length, take, drop, length-drop}
use lib.Seq.{length-take-le}
use Rattle.command_grammar.specs.LineCharacters.{slash}
use Rattle.command_grammar.specs.Parsed.{Switch, Specification}
use Rattle.command_grammar.specs.Grammar.{IsSpecification}
use Rattle.command_grammar.specs.Reader.{is, Res, ok, no, many, switch, specification, moved, from}
use Rattle.command_grammar.proofs.ReaderTheory.{Sound}
use Rattle.command_grammar.proofs.ReaderLines.{specification_reads}
use Rattle.command_parts.specs.CappedParts.{capped_specification}
use Rattle.command_parts.specs.Numbers.{numbers_of}
use Rattle.command_parts.specs.Specified.{with_switches, PartsAt}
use Rattle.command_parts.specs.declared.Parts.{Parts}
use Rattle.command_switches.specs.Encoded.{encoded}
use Rattle.command_switches.specs.SwitchesWritten.{SwitchesWritable}
use Rattle.command_switches.proofs.EncodedRoom.{specification_short}
use Rattle.command.specs.Condensed.{line_limit}
use Rattle.command.specs.GivenAt.{GivenAt, SpecificationAt, SwitchesAt, LacksRoom}
use Rattle.command.specs.GivenAt as Q
use Rattle.command.specs.Asking as A

moved_back : (at : ℕ) (r : Res Specification) (v : Specification) (end : ℕ) → moved at r ≡ ok v end → (n : ℕ) × (r ≡ ok v n)
moved_back at (ok w n) v end is = (n, let z : w ≡ v = cc in ap (λ (u : Specification). ok u n) z)
moved_back at (no n) v end is = let z : ◌≡◌ {A = ℕ} 0 1 = cc in absurd (omega arith)

stands_short : (line : List ℕ) (at : ℕ) (v : Specification) (end : ℕ) → from specification line at ≡ ok v end
    → length (encoded v.switches) ≤ 3 * length line
unfolding from
stands_short line at v end is =
    let back = moved_back at (specification (drop at line)) v end is in
    let sound = subst (Sound IsSpecification (drop at line)) back.1 (specification_reads.sound (drop at line)) in
    omega (
      arith,
      specification_short (take back.0 (drop at line)) v sound.1,
      length-take-le back.0 (drop at line) sound.0,
      sound.0,
      length-drop at line,
    )

-- whether there is room for the switches: three bytes for each character are enough
module _ {line : List ℕ} {start : ℕ} where
  pub room_enough : (room : ℕ) → SwitchesAt line start → 3 * length line ≤ room → LacksRoom line start room false
  room_enough room s wide = record {
    tells = λ ws end stand.
        let told = sym s.stand ∙ stand in
        let same : s.what.what.switches ≡ ws = cc in
        let short = stands_short line s.at s.what.what s.what.end s.what.stands in
        sym (le-ltb room (length (encoded ws)) (omega (arith, short, ap (λ (l : List Switch). length (encoded l)) same)));
  }

-- the specification that stands at a place, its parts, and whether there is room for its switches
module _ {line : List ℕ} {at : ℕ} (s : SpecificationAt line at) {x : Parts} (parts : PartsAt line at x) where
  its_switches : from (many (is slash) switch) line x.next.at ≡ ok s.what.switches s.end
  its_switches = parts.behind s.what s.end s.stands

  pub switches_begin : SwitchesAt line x.next.at
  switches_begin = record { at = at; what = s; stand = its_switches }

  module _ {room : ℕ} {lacks : Bool} (r : LacksRoom line x.next.at room lacks) where
    told : lacks ≡ ltb room (length (encoded s.what.switches))
    told = r.tells s.what.switches s.end its_switches

    fits : lacks ≡ false → length (encoded s.what.switches) ≤ room
    fits enough = omega (arith, ltb-false room (length (encoded s.what.switches)) (sym told ∙ enough))

    pub give_writable : length line ≤ line_limit → lacks ≡ false → SwitchesWritable line x.next.at room
    give_writable few enough = record { switches = s.what.switches; end = s.end; stand = its_switches; fits = fits enough; short = omega arith }

  -- what stands there is one specification
  only : (P : Specification → Type 0) → P s.what → (v : Specification) (end : ℕ) → from specification line at ≡ ok v end → P v
  only P holds v end stands =
      let e = sym s.stands ∙ stands in
      let same : s.what ≡ v = cc in
      subst P same holds

  pub give_short : {buffer : List ℕ} {lacks : Bool} → LacksRoom line x.next.at (length buffer) lacks → lacks ≡ true → GivenAt line at buffer A.NoRoom buffer
  give_short {buffer} r short = record {
    gives = only (λ (v : Specification). Q.SpecificationGiven v buffer A.NoRoom buffer)
        (Q.SpecificationGiven.short (ltb-true (length buffer) (length (encoded s.what.switches)) (sym (told r) ∙ short)));
  }

  pub give_given : {buffer after : List ℕ} {lacks : Bool} → LacksRoom line x.next.at (length buffer) lacks → lacks ≡ false → {count : ℕ}
      → ((ws : List Switch) (end : ℕ) → from (many (is slash) switch) line x.next.at ≡ ok ws end
      → (after ≡ encoded ws ++ drop (length (encoded ws)) buffer) × (count ≡ length ws))
      → GivenAt line at buffer (A.Given (with_switches x.numbers count)) after
  give_given {buffer} {after} r enough {count} written =
      let w = written s.what.switches s.end its_switches in
      let whole : with_switches x.numbers count ≡ numbers_of (capped_specification s.what) =
      ap (with_switches x.numbers) w.1 ∙ parts.numbers s.what s.end s.stands in
      record {
        gives = only (λ (v : Specification). Q.SpecificationGiven v buffer (A.Given (with_switches x.numbers count)) after) (rw (whole, w.0) (Q.SpecificationGiven.given (fits r enough)));
      }
