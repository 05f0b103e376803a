-- The answer of a record put beside it: its two words are words, and its bytes stand at the record's place.
use Prim.Native.Nat.{ℕ, ◌+◌, ◌*◌, ◌-◌, ◌<◌}
use mathlib.Core.Path.{◌≡◌, refl, sym, ap, ◌∙◌}
use mathlib.Core.List.{List, ◌∷◌, ◌++◌, append_assoc}
use native.Mathlib.Omega.{arith}
use lib.ListN.{length, take, drop, replicate}
use lib.Seq.{sets, sets-eq}
use borrow.Rule.Slice.PartMut.{put_mid, mid_of, mid_len}
use Rattle.words.specs.Word.{set_word, word_bytes}
use Rattle.words.proofs.WordSlices.{part_back}
use Rattle.consistency.specs.ConsistentTest.{Opened}
use Rattle.listed.specs.declared.Record.{Record}
use Rattle.listed.specs.Record.{request_in}
use Rattle.listed.specs.Listed.{listed_outcome, answer_bytes}
use Rattle.listed.specs.RecordStep.{Fits, Served, Stepped}
use Rattle.listed.proofs.RecordNames.{names_allowed}
use Rattle.listed.proofs.ListedSmall.{code_small, number_small}

-- a cleared part with two words set is an answer
pub answer_laid : {long : ℕ} {cleared coded done : List ℕ} (code number : ℕ) → long ≡ 32 → cleared ≡ replicate long 0
    → coded ≡ set_word cleared 0 code → done ≡ set_word coded 1 number → done ≡ word_bytes (code ∷ (number ∷ replicate 14 0))
unfolding set_word word_bytes
answer_laid code number long clear first second =
    second ∙ ap (λ (s : List ℕ). set_word s 1 number) (first ∙ ap (λ (s : List ℕ). set_word s 0 code) (clear ∙ ap (λ (n : ℕ). replicate n 0) long))

pub bytes_long : (code number : ℕ) → length (word_bytes (code ∷ (number ∷ replicate 14 0))) ≡ 32
unfolding word_bytes
bytes_long code number = refl

module _ {img img' : List ℕ} {r : Record} {code number : ℕ} (made : Served img r code number img') where
  pub answer_small : (code < 65536) × (number < 65536)
  answer_small = (
    omega (arith, made.told, code_small (request_in r) (names_allowed r) img),
    omega (arith, made.counted, number_small (request_in r) (names_allowed r) img),
  )

  answer_is : word_bytes (code ∷ (number ∷ replicate 14 0)) ≡ answer_bytes (listed_outcome (request_in r) img)
  unfolding answer_bytes
  answer_is = λ j. word_bytes (made.told j ∷ (made.counted j ∷ replicate 14 0))

module _ (answers : List ℕ) (i : ℕ) (room : 32 * i + 31 < length answers) where
  pub part_long : length (mid_of (32 * i) (32 * i + 32 - 32 * i) answers) ≡ 32
  part_long = mid_len (32 * i) (32 * i + 32) answers (omega (arith, room)) ∙ omega arith

  laid : (part : List ℕ) → length part ≡ 32 → put_mid (32 * i) (32 * i + 32 - 32 * i) answers part ≡ sets answers (32 * i) part
  laid part long =
      part_back answers part (32 * i) (32 * i + 32) (omega arith)
      ∙ ap (λ (n : ℕ). take (32 * i) answers ++ (part ++ drop (32 * i + n) answers)) (sym long)
      ∙ sym (append_assoc (take (32 * i) answers) part (drop (32 * i + length part) answers))
      ∙ sym (sets-eq part answers (32 * i) (omega (arith, long, room)))

  pub put_beside : {img img' map' part : List ℕ} (r : Record) {opened : Opened} {code number : ℕ} → Served img r code number img' → Fits img' map' opened
      → part ≡ word_bytes (code ∷ (number ∷ replicate 14 0)) → Stepped img answers opened i r img' map' (put_mid (32 * i) (32 * i + 32 - 32 * i) answers part)
  put_beside {part = part} r {code = code} {number} made fits is =
      record {
        image = made.left;
        beside = laid part (ap length is ∙ bytes_long code number) ∙ ap (sets answers (32 * i)) (is ∙ answer_is made);
        fits = fits;
      }
