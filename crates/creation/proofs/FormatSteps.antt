-- What the steps that write come to: the system's bytes cleared, then the header set in them, is the empty pack; its bits are marked behind that.
use Prim.Native.Nat.{ℕ, ◌+◌, ◌-◌, ◌≤◌}
use mathlib.Core.Path.{◌≡◌, sym, ap, ◌∙◌}
use mathlib.Core.List.{List, ◌++◌, append_assoc}
use native.Mathlib.Omega.{arith}
use lib.ListN.{length, drop, replicate, length-replicate, replicate-append-replicate}
use lib.Seq.{sets-eq, drop-append-add, drop-drop, drop_at}
use borrow.Rule.Slice.PartMut.{put_mid}
use Rattle.words.specs.Word.{set_word, bytes_of}
use Rattle.words.proofs.WordSlices.{part_back}
use Rattle.creation.specs.Formattable.{uics_in}
use Rattle.creation.specs.Format.{system_bytes, empty_pack}
use Rattle.creation.specs.FormatSteps.{headed}

-- words 0 to 3 and the UICs
abbrev header_bytes : ℕ → ℕ → ℕ → ℕ → List ℕ
header_bytes form blocks contents uics = bytes_of form ++ (bytes_of blocks ++ (bytes_of contents ++ bytes_of uics))

words_set : (image : List ℕ) (form blocks contents uics : ℕ) → 8 ≤ length image
    → set_word (set_word (set_word (set_word image 0 form) 1 blocks) 2 contents) 3 uics ≡ header_bytes form blocks contents uics ++ drop 8 image
unfolding set_word
words_set image form blocks contents uics long = sets-eq (header_bytes form blocks contents uics) image 0 (omega arith)

pub headed_is : (image : List ℕ) (form blocks contents : ℕ) (uics : List ℕ) → 8 + length uics ≤ length image
    → {one two three four part : List ℕ} → one ≡ set_word image 0 form → two ≡ set_word one 1 blocks → three ≡ set_word two 2 contents
    → four ≡ set_word three 3 (uics_in uics) → part ≡ uics → put_mid 8 (8 + length uics - 8) four part ≡ headed image form blocks contents uics
unfolding headed
headed_is image form blocks contents uics long {one} {two} {three} {four} {part} first second third fourth filled =
    let all : four ≡ header ++ drop 8 image = cc (words_set image form blocks contents (uics_in uics) (omega arith)) in
    part_back four part 8 (8 + length uics) (omega arith)
    ∙ rw (all, filled) (ap (λ (l : List ℕ). header ++ (uics ++ l)) (drop-append-add header (drop 8 image) (length uics) ∙ drop-drop (length uics) 8 image))
  where
    header : List ℕ
    header = header_bytes form blocks contents (uics_in uics)

pub blank_is : (image : List ℕ) (form blocks contents : ℕ) (uics : List ℕ) → 8 + length uics ≤ system_bytes form contents
    → headed (replicate (system_bytes form contents) 0 ++ drop (system_bytes form contents) image) form blocks contents uics
    ≡ empty_pack image form blocks contents uics
unfolding headed empty_pack
blank_is image form blocks contents uics inside =
    ap (λ (l : List ℕ). header_bytes form blocks contents (uics_in uics) ++ (uics ++ l)) (behind (system_bytes form contents) (8 + length uics) inside)
  where
    behind : (end from : ℕ) → from ≤ end → drop from (replicate end 0 ++ drop end image) ≡ replicate (end - from) 0 ++ drop end image
    behind end from order =
        let parts : from + (end - from) ≡ end = omega arith in
        ap (λ (n : ℕ). drop from (replicate n 0 ++ drop end image)) (sym parts)
        ∙ ap (λ (l : List ℕ). drop from (l ++ drop end image)) (sym (replicate-append-replicate from (end - from) 0))
        ∙ ap (drop from) (append_assoc (replicate from 0) (replicate (end - from) 0) (drop end image))
        ∙ drop_at (replicate from 0) (replicate (end - from) 0 ++ drop end image) from (length-replicate from 0)
