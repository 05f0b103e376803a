-- An entry, of which the words were read.
use Prim.Native.Nat.{ℕ, ◌+◌, ◌*◌, ◌≤◌, ◌<◌}
use mathlib.Core.Path.{◌≡◌, sym, ap, subst, ◌∙◌}
use mathlib.Core.List.{List}
use native.Mathlib.Omega.{arith}
use lib.ListN.{length}
use Rattle.words.specs.Word.{set_word}
use Rattle.pack.specs.declared.Geometry.{Geometry}
use Rattle.pack.specs.Geometry.{slots, block_words}
use Rattle.pack.specs.Entry.{entry_word, entry_of}
use Rattle.moving.specs.declared.Way.{Way}
use Rattle.moving.specs.Ways.{renumbered}
use Rattle.moving.specs.MovedParts.{Source, Partly, Walked}
use Rattle.moving.proofs.SourceNumbers.{first_number, last_number, number_small}
use Rattle.moving.proofs.MovedPartsSteps.{partly_same, partly_words, total_room}
use Rattle.moving.proofs.MovedPartsWalked.{walked_other}
use Rattle.moving.specs.LinkWalk.{LinkedEntry}

module _ {src : List ℕ} {g : Geometry} {way : Way} (source : Source way src g) where
  module _ {e : ℕ} (within : e < slots g) where
    pub chain_other : {now : List ℕ} {kind : ℕ} → kind ≡ entry_word src g e 5 → (kind ≡ 2 → ⊥) → Partly way src now g e
        (Walked src g e 0) → Partly way src now g e (Walked src g (e + 1) 0)
    unfolding entry_of
    chain_other is other partly = partly_same (λ b. walked_other src g b e (λ two. other (is ∙ two))) partly

    pub chain_linked : {kind first size : ℕ} → kind ≡ entry_word src g e 5 → kind ≡ 2 → first ≡ entry_word src g e 6 → size ≡ entry_word src g e 7 →
        LinkedEntry way src g e first size
    unfolding entry_of
    chain_linked is two first size =
        record { source = source; within = within; kind = sym is ∙ two; first = sym first; count = sym size }

    -- what the two words become
    pub first_small : {first read : ℕ} → first ≡ renumbered way read → read ≡ entry_word src g e 6 → first < 65536
    unfolding entry_of
    first_small is read = omega (arith, is, ap (renumbered way) read, number_small source.stated source.movable (entry_word src g e 6) (first_number source.stated source.movable e within))

    pub last_small : {last read : ℕ} → last ≡ renumbered way read → read ≡ entry_word src g e 8 → last < 65536
    unfolding entry_of
    last_small is read = omega (arith, is, ap (renumbered way) read, number_small source.stated source.movable (entry_word src g e 8) (last_number source.stated source.movable e within))

    pub entry_inside : {now : List ℕ} {words : ℕ} (i : ℕ) {Done : ℕ → Type 0} → Partly way src now g e Done → words ≡ block_words g → i < 16 → 2 *
        (words + 16 * e + i) + 1 < length now
    entry_inside i partly is small = omega (arith, is, partly.long, total_room source.stated source.movable)

    pub entry_inside₂ : {now : List ℕ} {words long : ℕ} (i : ℕ) {Done : ℕ → Type 0} → Partly way src now g e Done → words ≡ block_words g → i < 16
        → long ≡ length now → 2 * (words + 16 * e + i) + 1 < long
    entry_inside₂ i partly is small kept = omega (arith, entry_inside i partly is small, kept)

    pub entry_done : {now one two : List ℕ} {words first last read read₂ : ℕ} {Done : ℕ → Type 0} → Partly way src now g e Done → words ≡ block_words g
        → first ≡ renumbered way read → read ≡ entry_word src g e 6 → last ≡ renumbered way read₂ → read₂ ≡ entry_word src g e 8
        → one ≡ set_word now (words + 16 * e + 6) first → two ≡ set_word one (words + 16 * e + 8) last → Partly way src two g (e + 1) Done
    entry_done partly is first read last read₂ writes writes₂ =
        rw (writes₂, writes, is, first, last, read, read₂) (partly_words source.stated source.movable partly within)

-- all entries
pub all_done : {src now : List ℕ} {g : Geometry} {way : Way} {e end : ℕ} → Partly way src now g e (Walked src g e 0) → e ≤ end → end ≡ slots g → end ≤ e
    → Partly way src now g (slots g) (Walked src g (slots g) 0)
all_done {src} {now} {g} {way} {e} {end} partly low is high =
    let whole : e ≡ slots g = omega arith in
    subst (λ (k : ℕ). Partly way src now g k (Walked src g k 0)) whole partly
