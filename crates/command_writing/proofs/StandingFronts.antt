-- The parts of the record at a word, but for its switches: when none fit, and what is laid of those that do.
use Prim.Native.Nat.{ℕ, ◌+◌, ◌/◌, ◌%◌, ◌≤◌, ◌<◌}
use mathlib.Core.Path.{◌≡◌, sym, ◌∙◌, subst}
use mathlib.Core.List.{List}
use mathlib.Core.Option.{Option}
use native.Mathlib.Omega.{arith}
use lib.Dec.{eqb}
use lib.ListN.{get_or}
use Rattle.std.specs.Prelude.{None, Some}
use Rattle.std.specs.Prelude as P
use Rattle.command_grammar.specs.Parsed.{Device, FileName, Uic}
use Rattle.command_parts.specs.Numbers.{is_present, is_extended}
use Rattle.command_writing.specs.WrittenLine.{written_device, written_file, written_uic}
use Rattle.command_writing.specs.LaidText.{Puts, PartLaid}
use Rattle.command_writing.specs.LaidText as L
use Rattle.command_writing.specs.PartFits.{DeviceFits, FileFits, UicFits, Front, FrontFits, front_text}
use Rattle.command_writing.proofs.LaidPieces.{puts_both}
use Rattle.command_writing.proofs.PresentBits.{Bits, present_bits_law, bits_present}

-- a part that was laid, and one that was not
pub record PartWent {A : Type 0} (Fits : A → Type 0) (text : A → List ℕ) (before : List ℕ) (count next : ℕ) (after : List ℕ) : Type 0 where
  pub what : A
  pub fits : Fits what
  pub laid : Puts before count after next (text what)

module _ {A : Type 0} {Fits : A → Type 0} {text : A → List ℕ} {before : List ℕ} {count : ℕ} where
  part_to : (next : ℕ) (after : List ℕ) → PartLaid Fits text before count (Some next) after → PartWent Fits text before count next after
  part_to next after (L.PartLaid.to {v} fits laid) = record { what = v; fits = fits; laid = laid }

  part_wrong : (after : List ℕ) → PartLaid Fits text before count None after → (v : A) → Fits v → ⊥
  part_wrong after (L.PartLaid.wrong never) = never

  pub part_went : {step : P.Option ℕ} {next : ℕ} {after : List ℕ} → PartLaid Fits text before count step after → step ≡ Some next
      → PartWent Fits text before count next after
  part_went {step} {next} {after} laid is = part_to next after (subst (λ s. PartLaid Fits text before count s after) is laid)

  pub part_stuck : {step : P.Option ℕ} {after : List ℕ} → PartLaid Fits text before count step after → step ≡ None → (v : A) → Fits v → ⊥
  part_stuck {step} {after} laid is = part_wrong after (subst (λ s. PartLaid Fits text before count s after) is laid)

-- the file of a record, by the words that were read
module _ (records : List ℕ) (at : ℕ) {present : ℕ} (is : present ≡ get_or records at 0) where
  fits_bits : (f : Front) → FrontFits records at f → Bits present (is_present f.device) (is_present f.file) (is_extended f.file) (is_present f.uic)
  fits_bits f fits = present_bits_law _ _ _ _ (fits.present_is ∙ sym is)

  pub front_large : 15 < present → (f : Front) → FrontFits records at f → ⊥
  front_large large f fits = omega (arith, (fits_bits f fits).most)

  module _ {device unit : ℕ} (device_is : device ≡ get_or records (at + 1) 0) (unit_is : unit ≡ get_or records (at + 2) 0) where
    pub front_device : ((d : Option Device) → DeviceFits (eqb (present % 2) 1) device unit d → ⊥) → (f : Front) → FrontFits records at f → ⊥
    front_device none f fits =
        none f.device (record {
          says = fits.device;
          there = (fits_bits f fits).zeroth;
          word_is = fits.device_is ∙ sym device_is;
          unit_is = fits.unit_is ∙ sym unit_is;
        })

    pub front_file : ((d : Option FileName)
        → FileFits (eqb ((present / 2) % 2) 1) (eqb ((present / 4) % 2) 1) (get_or records (at + 3) 0) (get_or records (at + 4) 0) (get_or records (at + 5) 0) d → ⊥)
        → (f : Front) → FrontFits records at f → ⊥
    front_file none f fits =
        none f.file (record {
          says = fits.file;
          there = (fits_bits f fits).first;
          longer = (fits_bits f fits).second;
          first_is = fits.first_is;
          second_is = fits.second_is;
          extension_is = fits.extension_is;
        })

    module _ {group user : ℕ} (group_is : group ≡ get_or records (at + 6) 0) (user_is : user ≡ get_or records (at + 7) 0) where
      pub front_uic : ((u : Option Uic) → UicFits (eqb (present / 8) 1) group user u → ⊥) → (f : Front) → FrontFits records at f → ⊥
      front_uic none f fits =
          none f.uic (record {
            says = fits.uic;
            there = (fits_bits f fits).third;
            group_is = fits.group_is ∙ sym group_is;
            user_is = fits.user_is ∙ sym user_is;
          })

      -- parts that fit, all of them
      pub front_fits : present ≤ 15 → {d : Option Device} {f : Option FileName} {u : Option Uic} → DeviceFits (eqb (present % 2) 1) device unit d
          → FileFits (eqb ((present / 2) % 2) 1) (eqb ((present / 4) % 2) 1) (get_or records (at + 3) 0) (get_or records (at + 4) 0) (get_or records (at + 5) 0) f
          → UicFits (eqb (present / 8) 1) group user u → FrontFits records at (record { device = d; file = f; uic = u })
      front_fits few d f u =
          let a = d.there in
          let b = f.there in
          let c = f.longer in
          let e = u.there in
          record {
            device = d.says;
            file = f.says;
            uic = u.says;
            present_is = rw (a, b, c, e) (bits_present present few ∙ is);
            device_is = d.word_is ∙ device_is;
            unit_is = d.unit_is ∙ unit_is;
            first_is = f.first_is;
            second_is = f.second_is;
            extension_is = f.extension_is;
            group_is = u.group_is ∙ group_is;
            user_is = u.user_is ∙ user_is;
          }

    pub front_laid : {before between further after : List ℕ} {count middle later : ℕ} {step : P.Option ℕ} {group user : ℕ} → present ≤ 15
        → group ≡ get_or records (at + 6) 0 → user ≡ get_or records (at + 7) 0
        → PartWent (DeviceFits (eqb (present % 2) 1) device unit) written_device before count middle between
        → PartWent (FileFits (eqb ((present / 2) % 2) 1) (eqb ((present / 4) % 2) 1) (get_or records (at + 3) 0) (get_or records (at + 4) 0) (get_or records (at + 5) 0))
        written_file between middle later further
        → PartLaid (UicFits (eqb (present / 8) 1) group user) written_uic further later step after
        → PartLaid (FrontFits records at) front_text before count step after
    unfolding front_text
    front_laid few group-is user-is d f (L.PartLaid.to {v = u} fits laid) =
        L.PartLaid.to {v = record { device = d.what; file = f.what; uic = u }} (front_fits group-is user-is few d.fits f.fits fits)
        (puts_both d.laid (puts_both f.laid laid))
    front_laid few group-is user-is d f (L.PartLaid.wrong none) = L.PartLaid.wrong (front_uic group-is user-is none)
