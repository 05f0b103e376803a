-- A new file in an image: its entry, that no file is touched, that the image stays consistent, and whose the blocks then are.
use Prim.Native.Nat.{ℕ, ◌+◌, ◌-◌, ◌≤◌, ◌<◌}
use mathlib.Core.Path.{◌≡◌, refl, sym, ap, subst, ◌∙◌}
use mathlib.Core.Logic.{◌⊎◌, inr}
use mathlib.Core.Bool.{Bool}
use mathlib.Core.List.{List, []}
use native.Mathlib.Omega.{arith}
use native.Mathlib.Decide.{ℕ_discrete}
use lib.Dec.{ltb}
use lib.ListN.{length, get_or, take, replicate, get_or-replicate}
use lib.Seq.{get_or-append-add}
use Rattle.pack.specs.declared.Entry.{Entry}
use Rattle.pack.specs.declared.Key.{Key}
use Rattle.pack.specs.declared.Owner.TheVariants.{Held}
use Rattle.pack.specs.Geometry.{geometry_of, slots}
use Rattle.pack.specs.File.{blocks_of, one, count}
use Rattle.pack.specs.Entry.{entry_word, entry_of, blocks_at, Contiguous, Linked, Used, Empty}
use Rattle.pack.specs.Key.{key_in, SameKey}
use Rattle.pack.specs.Consistent.{held, Consistent}
use Rattle.pack.specs.Owner.{FreeBlock, place_from, owner_of}
use Rattle.pack.specs.Untouched.{Untouched}
use Rattle.pack.specs.MapSays.{MapSays, marking}
use Rattle.pack.proofs.ConsistentHeld.{consistent_says}
use Rattle.pack.proofs.HeaderTestWords.{listed_iff}
use Rattle.pack.proofs.FileCount.{count_nil}
use Rattle.pack.proofs.EntryRead.{empty_blocks}
use Rattle.asking.proofs.Keys.{legal_iff, absent_iff}
use Rattle.owners.proofs.OwnerPlaces.{place_none}
use Rattle.owners.proofs.OneOwner.{owner_held, held_of}
use Rattle.frame.specs.Framed.{Only, Never, Kept}
use Rattle.frame.specs.Framing.{Framed}
use Rattle.frame.specs.Framing.Distinct.{new}
use Rattle.frame.proofs.FramedStays.{stated_framed, listed_framed, says_kept}
use Rattle.frame.proofs.FramedHeld.{framed_never, held_one}
use Rattle.frame.proofs.FramedConsistent.{consistent_one}
use Rattle.frame.proofs.UntouchedFramed.{untouched_framed}
use Rattle.frame.proofs.OwnerFramed.{owner_framed}
use Rattle.creation.specs.declared.creating.Shape.{Shape}
use Rattle.pack.specs.EntryWords.{words_of, set_entry_words}
use Rattle.creation.specs.Creating.{new_file, entry_for}
use Rattle.frame.proofs.FramedWritten.{words_kept}
use Rattle.pack.proofs.EntryWordsWritten.{written_word, written_entry}
use Rattle.creation.proofs.CreatingStage.{Creatable}

-- "11 to 15 zero"
rest_zero : (x : Entry) (i : ℕ) → 11 ≤ i → i < 16 → get_or (words_of x) i 0 ≡ 0
rest_zero x i low high =
    let place : i ≡ 11 + (i - 11) = omega arith in
    ap (λ (k : ℕ). get_or (words_of x) k 0) place ∙ get_or-append-add (take 11 (words_of x)) (replicate 5 0) (i - 11) 0 ∙ get_or-replicate 5 (i - 11) 0 0 (omega arith)

-- The image with a new file: the words of its entry are in the lowest empty one, and else nothing is written but bytes of blocks that no file had.
pub record Entered (Written : ℕ → Type 0) (img after : List ℕ) (x : Entry) : Type 0 where
  pub framed : Framed (Only (entry_for img)) Written img after (geometry_of img)
  pub words : (i : ℕ) → i < 16 → entry_word after (geometry_of img) (entry_for img) i ≡ get_or (words_of x) i 0
  pub entry : entry_of after (geometry_of img) (entry_for img) ≡ x

module _ {img : List ℕ} {key : Key} {caller protect : ℕ} {wrong : Bool} (ready : Creatable img key caller protect wrong)
    (shape : Shape) where
  abbrev file : Entry
  file = new_file key protect shape

  -- its entry alone
  abbrev pub entered : List ℕ
  entered = set_entry_words img (geometry_of img) (entry_for img) 0 (words_of file)

  pub entered_kept : {Written : ℕ → Type 0} → Kept (Only (entry_for img)) Written img entered (geometry_of img)
  entered_kept = words_kept (words_of file) img (geometry_of img) (entry_for img) 0 refl ready.entry.inside (omega arith)

  -- it takes no block: the map says what it said
  pub entered_says : MapSays entered (geometry_of img) (marking img (geometry_of img))
  entered_says = says_kept (entered_kept {Written = Never}) (λ b never. absurd never) (consistent_says img (geometry_of img) refl ready.right)

  pub entry_entered : Entered Never img entered file
  entry_entered =
      record {
        framed = framed_never entered_kept;
        words = written_word img (geometry_of img) (entry_for img) file ready.sized ready.entry.inside;
        entry = written_entry img (geometry_of img) (entry_for img) file ready.sized ready.entry.inside;
      }

  module _ {Written : ℕ → Type 0} {after : List ℕ} (e : Entered Written img after file) where
    -- no file is touched: the entry was empty
    pub entered_untouched : (key' : Key) → Untouched key' img after
    entered_untouched key' =
        untouched_framed refl ready.right e.framed key' (λ f inside is used keyed. used (subst (Empty img (geometry_of img)) (sym is) ready.entry.empty))

    blocks_entered : blocks_at after (geometry_of img) (entry_for img) ≡ blocks_of after (geometry_of img) file
    blocks_entered = ap (blocks_of after (geometry_of img)) e.entry

    blocks_before : blocks_at img (geometry_of img) (entry_for img) ≡ []
    blocks_before = empty_blocks img (geometry_of img) (entry_for img) ready.entry.empty

    -- each block is held as often as before, and by the new file as often as it has it
    pub entered_held : (b : ℕ) → held after b ≡ held img b + count b (blocks_of after (geometry_of img) file)
    entered_held b =
        omega (
          arith,
          held_one refl ready.right e.framed ready.entry.inside b,
          ap (count b) blocks_entered,
          ap (count b) blocks_before,
          count_nil b,
        )

    module _
        (right_kind : Contiguous file ⊎ Linked after (geometry_of img) file)
        (few : one (ltb 0 shape.writer) ≤ 62)
        (single : (b : ℕ) → count b (blocks_of after (geometry_of img) file) ≤ 1)
        (free : (b : ℕ) → 0 < count b (blocks_of after (geometry_of img) file) → FreeBlock img b)
        (map : MapSays after (geometry_of img) (λ b. marking img (geometry_of img) b + count b (blocks_of after (geometry_of img) file))) where
      used : Used after (geometry_of img) (entry_for img) file
      used =
          record {
            name = ((legal_iff key).0 ready.legal).0;
            extension = ((legal_iff key).0 ready.legal).1;
            uic = (listed_framed refl ready.right e.framed key.uic).0 ((listed_iff img key.uic).0 ready.known);
            protect = ready.small;
            kind = right_kind;
            rest = λ i low high. e.words i high ∙ rest_zero file i low high;
            bodies = λ b some. ((free b some).body, (free b some).below);
            opens = omega (arith, few);
          }

      -- no entry in use has the key
      unlike : (f : ℕ) → f < slots (geometry_of img) → SameKey (key_in (entry_of img (geometry_of img) f)) (key_in (entry_of after (geometry_of img) (entry_for img))) → ⊥
      unlike f inside alike =
          (absent_iff ready.right key ready.legal).0 ready.absent f inside
          (record {
            name1 = alike.name1 ∙ ap (λ (x : Entry). x.name1) e.entry;
            name2 = alike.name2 ∙ ap (λ (x : Entry). x.name2) e.entry;
            extension = alike.extension ∙ ap (λ (x : Entry). x.extension) e.entry;
            uic = alike.uic ∙ ap (λ (x : Entry). x.uic) e.entry;
          })

      pub entered_consistent : Consistent after
      entered_consistent =
          consistent_one refl ready.right e.framed ready.entry.inside
          (inr (subst (Used after (geometry_of img) (entry_for img)) (sym e.entry) used))
          (new (λ f inside other in_use alike. unlike f inside alike))
          (λ b. omega (arith, single b, ap (count b) blocks_entered))
          (λ b some. inr (free b (omega (arith, some, ap (count b) blocks_entered))).nobody)
          map (λ b. omega (arith, ap (count b) blocks_entered, ap (count b) blocks_before, count_nil b))

      -- its blocks are its own, each at its place
      pub entered_owner : (p b : ℕ) → p < length (blocks_of after (geometry_of img) file) → get_or (blocks_of after (geometry_of img) file) p 0 ≡ b
          → owner_of after b ≡ Held (entry_for img) (record { 0 = p })
      entered_owner p b place is =
          (owner_held entered_consistent b (entry_for img) p).1
          (held_of after (geometry_of img) (entry_for img) p b (stated_framed refl ready.right e.framed) ready.entry.inside
          (omega (arith, place, ap length blocks_entered)) (ap (λ (blocks : List ℕ). get_or blocks p 0) blocks_entered ∙ is))

    -- any other block is whose it was
    pub entered_others : (b : ℕ) → count b (blocks_of after (geometry_of img) file) ≡ 0 → owner_of after b ≡ owner_of img b
    entered_others b none =
        owner_framed refl ready.right e.framed (λ f. ℕ_discrete f (entry_for img)) b (λ f inside is.
        subst (λ (i : ℕ). place_from b 0 (blocks_at after (geometry_of img) i) ≡ place_from b 0 (blocks_at img (geometry_of img) i)) (sym is)
        ((place_none b 0 (blocks_at after (geometry_of img) (entry_for img))).1 (ap (count b) blocks_entered ∙ none)
        ∙ sym (ap (place_from b 0) blocks_before)))
