-- What RADUP leaves in a lent part of a buffer is a word spelled there, or nothing.
use Prim.Native.Nat.{ℕ, ◌+◌, ◌-◌, ◌≤◌}
use mathlib.Core.Path.{◌≡◌, refl, sym, ap, ◌∙◌}
use mathlib.Core.List.{List}
use mathlib.Core.Option.{Option, none, some}
use mathlib.Core.Bool.{true, false}
use native.Mathlib.Omega.{arith}
use lib.ListN.{length}
use borrow.Rule.Slice.PartMut.{put_mid, mid_of, mid_len, put_same}
use Rattle.std.specs.Prelude.{Result, Ok, Err, ⊤, is_err}
use Rattle.answers.specs.declared.Refusal.{Refusal}
use Rattle.answers.specs.declared.Refusal.TheVariants.{Inconsistent, IllegalName, WrongArgument, UnlistedUic, ExistsOrAbsent, RightLacking, Contiguous, WrongKind}
use Rattle.answers.specs.declared.Refusal.TheVariants.{HasWriter, FileOpen, NotOpen, NoSuchBlock, TooManyOpens, DirectoryFull, NoRoom, NotOfSet}
use Rattle.answers.specs.Refusals.{code_of, code_in}
use Rattle.answers.specs.Conversion.{Converted}
use Rattle.answers.proofs.RefusalsTests.{true_not_false}
use Rattle.answers.proofs.Conversion.{characters_given}
use Rattle.radix.specs.Packing.{characters_of}
use Rattle.radix.specs.Radup.{radup}
use Rattle.radix.proofs.Packing.{word_pair}
use Rattle.radix.proofs.RadupCases.{no_characters}
use Rattle.printing.specs.Listing.{spelled}
use Rattle.printing.specs.Put.{Put}
use Rattle.printing.proofs.Put.{put_nothing, put_part}

spelled_given : (w : ℕ) (s characters : List ℕ) → length s ≡ 3 → characters_of w ≡ some characters → radup w s ≡ record { code = 0; buffer = characters }
unfolding radup
spelled_given w s characters sized is = characters_given 3 characters_of w s sized is

-- a refusal has a code, and nothing else has one
code_some : (refusal : Refusal) → code_of refusal ≡ 0 → ⊥
unfolding code_of
code_some Inconsistent is = omega (arith, is)
code_some IllegalName is = omega (arith, is)
code_some WrongArgument is = omega (arith, is)
code_some UnlistedUic is = omega (arith, is)
code_some ExistsOrAbsent is = omega (arith, is)
code_some RightLacking is = omega (arith, is)
code_some Contiguous is = omega (arith, is)
code_some WrongKind is = omega (arith, is)
code_some HasWriter is = omega (arith, is)
code_some FileOpen is = omega (arith, is)
code_some NotOpen is = omega (arith, is)
code_some NoSuchBlock is = omega (arith, is)
code_some TooManyOpens is = omega (arith, is)
code_some DirectoryFull is = omega (arith, is)
code_some NoRoom is = omega (arith, is)
code_some NotOfSet is = omega (arith, is)

pub refused_code : (outcome : Result ⊤ Refusal) → is_err outcome ≡ true → code_in outcome ≡ 0 → ⊥
unfolding code_in
refused_code (Ok done) refused = true_not_false (sym refused)
refused_code (Err refusal) refused = code_some refusal

pub given_code : (outcome : Result ⊤ Refusal) → is_err outcome ≡ false → code_in outcome ≡ 0
unfolding code_in
given_code (Ok done) given = refl
given_code (Err refusal) given = true_not_false given

module _ (s v : List ℕ) (at w code : ℕ) (fits : at + 3 ≤ length s) (answered : code ≡ (radup w (mid_of at (at + 3 - at) s)).code)
    (left : v ≡ (radup w (mid_of at (at + 3 - at) s)).buffer) where
  sized : length (mid_of at (at + 3 - at) s) ≡ 3
  sized = mid_len at (at + 3) s fits ∙ omega arith

  pub put_spelled : code ≡ 0 → Put s (put_mid at (at + 3 - at) s v) at (at + 3) (spelled w)
  put_spelled success = by (characters_of w) refl
    where
      by : (o : Option (List ℕ)) → characters_of w ≡ o → Put s (put_mid at (at + 3 - at) s v) at (at + 3) (spelled w)
      by none is = absurd (omega (arith, (no_characters w (mid_of at (at + 3 - at) s) sized is).0))
      by (some characters) is =
          let long : length characters ≡ 3 = word_pair.sized w characters is in
          let written : v ≡ characters = left ∙ ap (λ (r : Converted). r.buffer) (spelled_given w (mid_of at (at + 3 - at) s) characters sized is) in
          rw (is, written) (put_part s characters at (at + 3) (omega arith) fits)

  pub put_unspelled : (code ≡ 0 → ⊥) → Put s (put_mid at (at + 3 - at) s v) at at (spelled w)
  put_unspelled refused = by (characters_of w) refl
    where
      by : (o : Option (List ℕ)) → characters_of w ≡ o → Put s (put_mid at (at + 3 - at) s v) at at (spelled w)
      by none is =
          let same : v ≡ mid_of at (at + 3 - at) s = left ∙ sym (no_characters w (mid_of at (at + 3 - at) s) sized is).1 in
          rw (is, same, put_same) (put_nothing s at)
      by (some characters) is = absurd (refused (answered ∙ ap (λ (r : Converted). r.code) (spelled_given w (mid_of at (at + 3 - at) s) characters sized is)))
