-- Specifications that stand in records, and what is laid of them.
use Prim.Native.Nat.{ℕ, ◌+◌, ◌≤◌}
use mathlib.Core.Path.{◌≡◌, sym, ◌∙◌}
use mathlib.Core.List.{List, [], ◌∷◌, ◌++◌, append_assoc}
use native.Mathlib.Omega.{arith}
use lib.ListN.{length, get_or, drop}
use Rattle.std.specs.Prelude.{Option}
use Rattle.command_grammar.specs.LineCharacters.{comma}
use Rattle.command_grammar.specs.Parsed.{Switch, Specification}
use Rattle.command_switches.specs.Encoded.{switch_words, all_switch_words}
use Rattle.command_parts.specs.Numbers.{numbers_of}
use Rattle.command_writing.specs.declared.Walk.{Walk}
use Rattle.command_writing.specs.Records.{record_words}
use Rattle.command_writing.specs.WrittenLine.{written_specification}
use Rattle.command_writing.specs.Sayable.{Each, SayableSwitch, SayableSpecification}
use Rattle.command_writing.specs.Standing.{joined, specification_words, Taken, Never}
use Rattle.command_writing.specs.LaidText.{Puts, StepLaid}
use Rattle.command_writing.specs.LaidText as L
use Rattle.command_writing.specs.PartFits.{Front, FrontFits, front_text, switch_text, next_text}
use Rattle.command_writing.proofs.LaidPieces.{puts_both, puts_same}
use Rattle.command_writing.proofs.RecordRows.{nine_rows, stands_within}
use Rattle.command_writing.proofs.StandingFronts.{PartWent}
use Rattle.command_writing.proofs.StandingSwitches.{switches_joined, switches_text}

-- its nine words are those of its parts, and its switches stand behind them
abbrev front_of : Specification → Front
front_of v = record { device = v.device; file = v.file; uic = v.uic }

joins : (f : Front) (ws : List Switch) → front_text f ++ joined switch_text ws ≡ written_specification (record { device = f.device; file = f.file; uic = f.uic; switches = ws })
unfolding front_text written_specification
joins f ws = rw (switches_text ws) (simp append_assoc)

module _ (records : List ℕ) (at : ℕ) where
  pub specification_none : at ≤ length records → (at + 9 ≤ length records → ⊥) → Never SayableSpecification specification_words records at
  unfolding specification_words
  specification_none fits short =
      record { never = λ v rest says is. short (omega (arith, stands_within records at fits (record_words (numbers_of v) ++ all_switch_words v.switches) rest is)) }

  module _ (inside : at + 9 ≤ length records) where
    record Behind (v : Specification) (rest : List ℕ) : Type 0 where
      fits : FrontFits records at (front_of v)
      many : length v.switches ≡ get_or records (at + 8) 0
      stand : drop (at + 9) records ≡ joined switch_words v.switches ++ rest

    behind : (v : Specification) (rest : List ℕ) → SayableSpecification v → drop at records ≡ specification_words v ++ rest → Behind v rest
    unfolding specification_words numbers_of
    behind v rest says is =
        let rows = nine_rows records at inside in
        let joins = switches_joined v.switches in
        let there : drop (at + 9) records ≡ all_switch_words v.switches ++ rest = cc in
        record {
          fits =
              record {
                device = says.device;
                file = says.file;
                uic = says.uic;
                present_is = cc;
                device_is = cc;
                unit_is = cc;
                first_is = cc;
                second_is = cc;
                extension_is = cc;
                group_is = cc;
                user_is = cc;
              };
          many = cc;
          stand = rw joins there;
        }

    pub specification_front : ((f : Front) → FrontFits records at f → ⊥) → Never SayableSpecification specification_words records at
    specification_front none = record { never = λ v rest says is. none (front_of v) (behind v rest says is).fits }

    module _ {switches : ℕ} (many : switches ≡ get_or records (at + 8) 0) where
      pub specification_taken : (f : Front) → FrontFits records at f → {ws : List Switch} {end : ℕ}
          → Taken (Each SayableSwitch switches) (joined switch_words) records (at + 9) ws end
          → Taken SayableSpecification specification_words records at (record { device = f.device; file = f.file; uic = f.uic; switches = ws }) end
      unfolding specification_words numbers_of
      specification_taken f fits {ws} {end} t =
          record {
            says = record { device = fits.device; file = fits.file; uic = fits.uic; switches = t.says.all };
            stands = stands;
            within = t.within;
            only = only;
          }
        where
          v : Specification
          v = record { device = f.device; file = f.file; uic = f.uic; switches = ws }

          stands : drop at records ≡ specification_words v ++ drop end records
          stands =
              let rows = nine_rows records at inside in
              let a = fits.present_is in
              let b = fits.device_is in
              let c = fits.unit_is in
              let d = fits.first_is in
              let e = fits.second_is in
              let g = fits.extension_is in
              let h = fits.group_is in
              let i = fits.user_is in
              let l : length ws ≡ get_or records (at + 8) 0 = t.says.long ∙ many in
              let there : drop (at + 9) records ≡ all_switch_words ws ++ drop end records = rw (switches_joined ws) at t.stands in
              cc

          only : (other : Specification) (rest : List ℕ) → SayableSpecification other → drop at records ≡ specification_words other ++ rest → rest ≡ drop end records
          only other rest says is =
              let b = behind other rest says is in
              t.only other.switches rest (record { long = b.many ∙ sym many; all = says.switches }) b.stand

      pub specification_never : Never (Each SayableSwitch switches) (joined switch_words) records (at + 9) → Never SayableSpecification specification_words records at
      specification_never none = record { never = never }
        where
          never : (v : Specification) (rest : List ℕ) → SayableSpecification v → drop at records ≡ specification_words v ++ rest → ⊥
          never v rest says is =
              let b = behind v rest says is in
              none.never v.switches rest (record { long = b.many ∙ sym many; all = says.switches }) b.stand

      pub specification_laid : {before between after : List ℕ} {count middle : ℕ} {step : Option Walk} → PartWent (FrontFits records at) front_text before count middle between
          → StepLaid (Each SayableSwitch switches) (joined switch_words) (joined switch_text) records (at + 9) between middle step after
          → StepLaid SayableSpecification specification_words written_specification records at before count step after
      specification_laid p (L.StepLaid.to {v = ws} t laid) =
          L.StepLaid.to (specification_taken p.what p.fits t) (puts_same (joins p.what ws) (puts_both p.laid laid))
      specification_laid p (L.StepLaid.wrong none) = L.StepLaid.wrong (specification_never none)

-- a comma before it
pub next_laid : {records : List ℕ} {at : ℕ} {before between after : List ℕ} {count middle : ℕ} {step : Option Walk} → Puts before count between middle (comma ∷ [])
    → StepLaid SayableSpecification specification_words written_specification records at between middle step after
    → StepLaid SayableSpecification specification_words next_text records at before count step after
unfolding next_text
next_laid p (L.StepLaid.to t laid) = L.StepLaid.to t (puts_both p laid)
next_laid p (L.StepLaid.wrong none) = L.StepLaid.wrong none
