-- Bytes laid in a loop, and bytes behind bytes: each can be laid, and what was to lay at the start comes down to what is left.
use Prim.Native.Nat.{ℕ, ◌+◌, ◌-◌, ◌≤◌, ◌<◌}
use mathlib.Core.Path.{◌≡◌, refl, sym, ap, subst, ◌∙◌}
use mathlib.Core.List.{List, [], ◌∷◌, ◌++◌, append_assoc, append-nil}
use native.Mathlib.Numerals.{add-one}
use native.Mathlib.Omega.{arith}
use lib.ListN.{length, get_or, set, take, drop, length-set, take-append-drop}
use lib.Seq.{drop-cons, take-suc-set, drop-set-lt}
use borrow.Rule.Slice.PartMut.{put_mid}
use Rattle.words.proofs.WordSlices.{part_back}
use Rattle.pack.specs.declared.Geometry.{Geometry}
use Rattle.pack.specs.declared.Key.{Key}
use Rattle.pack.specs.declared.BlockNo.{BlockNo}
use Rattle.pack.specs.Geometry.{payload_bytes}
use Rattle.consistency.specs.Mapped.{Mapped}
use Rattle.stream.specs.declared.Filling.{Filling}
use Rattle.stream.specs.Filling.{Layable, LaidByte, Writing, Writable, Laying, LaidWithin, written}
use Rattle.stream.specs.Filling.LaidByte.{within}
use Rattle.stream.proofs.FillingSteps.{writing_layable, writing_next, written_end}

-- who writes these bytes and no more
pub writing_alone : {key : Key} {caller : ℕ} {img map : List ℕ} {g : Geometry} {e : ℕ} {gather : List ℕ} {at : Filling} {bytes : List ℕ}
    → Writing key caller img map g e gather at bytes → Writable img map g e gather at bytes
writing_alone {key} {caller} {img} {map} {g} {e} {gather} {at} {bytes} writing =
    record { key = key; caller = caller; behind = []; writing = subst (Writing key caller img map g e gather at) (sym (append-nil bytes)) writing }

pub laying_start : {g : Geometry} {e : ℕ} {img map gather : List ℕ} {at : Filling} {bytes : List ℕ} → Laying g e img map gather at bytes img map gather at bytes
laying_start = record { still = λ key caller behind writing. writing; same = λ key caller behind writing. refl }

module _ {g : Geometry} {e : ℕ} {img₀ map₀ gather₀ : List ℕ} {start : Filling} {bytes img map gather : List ℕ} {at : Filling} where
  -- one byte of those that are left
  pub laying_layable : {byte : ℕ} {left : List ℕ} → Writable img₀ map₀ g e gather₀ start bytes
      → Laying g e img₀ map₀ gather₀ start bytes img map gather at (byte ∷ left) → Layable img map g e gather at byte
  laying_layable w laying = writing_layable (laying.still w.key w.caller w.behind w.writing)

  pub laying_next : {byte : ℕ} {left gather' img' map' : List ℕ} {r : Filling} → Laying g e img₀ map₀ gather₀ start bytes img map gather at (byte ∷ left)
      → gather' ≡ set gather at.filled byte → LaidByte img map g e at gather' img' map' r → Laying g e img₀ map₀ gather₀ start bytes img' map' gather' r left
  laying_next laying laid one =
      record {
        still = λ key caller behind writing. (writing_next (laying.still key caller behind writing) laid one).0;
        same = λ key caller behind writing. laying.same key caller behind writing ∙ (writing_next (laying.still key caller behind writing) laid one).1;
      }

  -- in a loop with an index: the byte at the index is the first of those that are left
  module _ {i : ℕ} (laying : Laying g e img₀ map₀ gather₀ start bytes img map gather at (drop i bytes)) where
    at_index : i < length bytes → Laying g e img₀ map₀ gather₀ start bytes img map gather at (get_or bytes i 0 ∷ drop (i + 1) bytes)
    at_index inside = rw (add-one, ← drop-cons bytes i 0 inside) laying

    pub index_layable : Writable img₀ map₀ g e gather₀ start bytes → i < length bytes → Layable img map g e gather at (get_or bytes i 0)
    index_layable w inside = laying_layable w (at_index inside)

    pub index_next : i < length bytes → {gather' img' map' : List ℕ} {r : Filling} → gather' ≡ set gather at.filled (get_or bytes i 0)
        → LaidByte img map g e at gather' img' map' r → Laying g e img₀ map₀ gather₀ start bytes img' map' gather' r (drop (i + 1) bytes)
    index_next inside laid one = laying_next (at_index inside) laid one

-- bytes laid in the buffer alone, all at once, with room behind them
within_from : {g : Geometry} {e : ℕ} {img map gather₀ : List ℕ} {start : Filling} {bytes : List ℕ} {from : BlockNo} (left gather : List ℕ) (filled : ℕ)
    → filled + length left < length gather
    → Laying g e img map gather₀ start bytes img map gather (record { filled = filled; from = from }) left
    → Laying g e img map gather₀ start bytes img map (take filled gather ++ (left ++ drop (filled + length left) gather))
    (record { filled = filled + length left; from = from }) []
within_from {g} {e} {img} {map} {gather₀} {start} {bytes} {from} [] gather filled room laying =
    let count : filled ≡ filled + 0 = omega arith in
    let buffer : gather ≡ take filled gather ++ drop (filled + 0) gather =
    sym (take-append-drop filled gather) ∙ ap (λ (k : ℕ). take filled gather ++ drop k gather) count in
    subst (λ (k : ℕ). Laying g e img map gather₀ start bytes img map (take filled gather ++ drop (filled + 0) gather) (record { filled = k; from = from }) []) count
    (subst (λ (s : List ℕ). Laying g e img map gather₀ start bytes img map s (record { filled = filled; from = from }) []) buffer laying)
within_from {g} {e} {img} {map} {gather₀} {start} {bytes} {from} (b ∷ left) gather filled room laying =
    let other : filled + 1 ≡ length (set gather filled b) → ⊥ = λ full. omega (arith, room, full, length-set gather filled b) in
    let count : filled + 1 + length left ≡ filled + length (b ∷ left) = omega arith in
    let front : take (filled + 1) (set gather filled b) ≡ take filled gather ++ (b ∷ []) =
    ap (λ (k : ℕ). take k (set gather filled b)) (add-one filled) ∙ take-suc-set gather filled b (omega (arith, room)) in
    let back : drop (filled + 1 + length left) (set gather filled b) ≡ drop (filled + length (b ∷ left)) gather =
    drop-set-lt (filled + 1 + length left) gather filled b (omega arith) ∙ ap (λ (k : ℕ). drop k gather) count in
    let buffer : take (filled + 1) (set gather filled b) ++ (left ++ drop (filled + 1 + length left) (set gather filled b))
    ≡ take filled gather ++ (b ∷ (left ++ drop (filled + length (b ∷ left)) gather)) =
    (λ i. front i ++ (left ++ back i)) ∙ append_assoc (take filled gather) (b ∷ []) (left ++ drop (filled + length (b ∷ left)) gather) in
    subst (λ (k : ℕ). Laying g e img map gather₀ start bytes img map (take filled gather ++ (b ∷ (left ++ drop (filled + length (b ∷ left)) gather)))
    (record { filled = k; from = from }) []) count
    (subst (λ (s : List ℕ). Laying g e img map gather₀ start bytes img map s (record { filled = filled + 1 + length left; from = from }) []) buffer
    (within_from left (set gather filled b) (filled + 1) (omega (arith, room, length-set gather filled b)) (laying_next laying refl (within other))))

pub within_whole : (gather : List ℕ) (filled : ℕ) (bytes : List ℕ) → filled + length bytes < length gather
    → LaidWithin gather filled bytes (put_mid filled (filled + length bytes - filled) gather bytes) (filled + length bytes) []
within_whole gather filled bytes room =
    record {
      laying = λ g e img map from.
          rw (part_back gather bytes filled (filled + length bytes) (omega arith)) (within_from bytes gather filled room laying_start);
    }

-- all bytes are laid
pub laying_done : {key : Key} {caller : ℕ} {g : Geometry} {e : ℕ} {img map gather : List ℕ} {at : Filling} {bytes img' map' gather' : List ℕ} {at' : Filling}
    → Writing key caller img map g e gather at bytes → Laying g e img map gather at bytes img' map' gather' at' []
    → written key caller (payload_bytes g) img gather at.filled bytes ≡ record { image = img'; buffer = gather'; filled = at'.filled }
unfolding writing_alone
laying_done {key} {caller} {g} {e} {img} {map} {gather} {at} {bytes} {img'} {map'} {gather'} {at'} writing laying =
    ap (written key caller (payload_bytes g) img gather at.filled) (sym (append-nil bytes))
    ∙ laying.same key caller [] (writing_alone writing).writing
    ∙ written_end key caller (payload_bytes g) img' gather' at'.filled

-- and the map says how often each block is held then
pub laying_mapped : {key : Key} {caller : ℕ} {g : Geometry} {e : ℕ} {img map gather : List ℕ} {at : Filling} {bytes img' map' gather' : List ℕ} {at' : Filling}
    → Writing key caller img map g e gather at bytes → Laying g e img map gather at bytes img' map' gather' at' [] → Mapped map' img'
unfolding writing_alone
laying_mapped {key} {caller} {map'} writing laying =
    let end = laying.still key caller [] (writing_alone writing).writing in
    record { enough = subst (λ (h : Geometry). h.blocks ≤ length map') (sym end.measures) end.long; says = end.says }

-- the buffer has room for a byte
pub writable_room : {img map : List ℕ} {g : Geometry} {e : ℕ} {gather : List ℕ} {at : Filling} {bytes : List ℕ} → Writable img map g e gather at bytes
    → at.filled < length gather
writable_room w = omega (arith, w.writing.room, w.writing.whole)

-- bytes, and then more
module _ {g : Geometry} {e : ℕ} {img map gather : List ℕ} {at : Filling} {bytes : List ℕ} (more : List ℕ) where
  pub writable_front : Writable img map g e gather at (bytes ++ more) → Writable img map g e gather at bytes
  writable_front w =
      record {
        key = w.key;
        caller = w.caller;
        behind = more ++ w.behind;
        writing = subst (Writing w.key w.caller img map g e gather at) (append_assoc bytes more w.behind) w.writing;
      }

  module _ {img' map' gather' : List ℕ} {at' : Filling} (first : Laying g e img map gather at bytes img' map' gather' at' []) where
    pub laying_front : Laying g e img map gather at (bytes ++ more) img' map' gather' at' more
    laying_front =
        record {
          still = λ key caller behind writing.
              first.still key caller (more ++ behind) (subst (Writing key caller img map g e gather at) (append_assoc bytes more behind) writing);
          same = λ key caller behind writing.
              ap (written key caller (payload_bytes g) img gather at.filled) (append_assoc bytes more behind)
              ∙ first.same key caller (more ++ behind) (subst (Writing key caller img map g e gather at) (append_assoc bytes more behind) writing);
        }

    pub writable_next : Writable img map g e gather at (bytes ++ more) → Writable img' map' g e gather' at' more
    writable_next w =
        record { key = w.key; caller = w.caller; behind = w.behind; writing = laying_front.still w.key w.caller w.behind w.writing }

    pub laying_append : {img'' map'' gather'' : List ℕ} {at'' : Filling} → Laying g e img' map' gather' at' more img'' map'' gather'' at'' []
        → Laying g e img map gather at (bytes ++ more) img'' map'' gather'' at'' []
    laying_append second =
        record {
          still = λ key caller behind writing. second.still key caller behind (laying_front.still key caller behind writing);
          same = λ key caller behind writing.
              laying_front.same key caller behind writing ∙ second.same key caller behind (laying_front.still key caller behind writing);
        }

-- in a loop whose turns lay several bytes each: a part is the first of those that are left
module _ {g : Geometry} {e : ℕ} {img₀ map₀ gather₀ : List ℕ} {start : Filling} {bytes img map gather : List ℕ} {at : Filling} (part left : List ℕ)
    (laying : Laying g e img₀ map₀ gather₀ start bytes img map gather at (part ++ left)) where
  pub part_writable : Writable img₀ map₀ g e gather₀ start bytes → Writable img map g e gather at part
  part_writable w =
      writable_front left
      (record { key = w.key; caller = w.caller; behind = w.behind; writing = laying.still w.key w.caller w.behind w.writing })

  pub part_next : {img' map' gather' : List ℕ} {r : Filling} → Laying g e img map gather at part img' map' gather' r []
      → Laying g e img₀ map₀ gather₀ start bytes img' map' gather' r left
  part_next one =
      record {
        still = λ key caller behind writing. (laying_front left one).still key caller behind (laying.still key caller behind writing);
        same = λ key caller behind writing.
            laying.same key caller behind writing ∙ (laying_front left one).same key caller behind (laying.still key caller behind writing);
      }
