-- Gathering: what holds of the buffer however many bytes are laid, that no byte is lost or added, and how many payloads become full.
use Prim.Native.Nat.{ℕ, ◌+◌, ◌*◌, ◌/◌, ◌%◌, ◌<◌}
use mathlib.Core.Path.{◌≡◌, refl, sym, ap, ◌∙◌}
use mathlib.Core.List.{List, [], ◌∷◌, ◌++◌, append_assoc, append-nil, flatten}
use native.Mathlib.Nat.{mul-add-div_right, mul-add-mod_self_right, div-eq_of_lt, mod-eq_of_lt}
use native.Mathlib.Numerals.{add-one}
use native.Mathlib.Omega.{arith}
use native.Mathlib.Decide.{ℕ_discrete}
use lib.ListN.{length, take, drop, set, length-append, length-set}
use lib.Seq.{take-suc-set, take_all, length-take-le, drop-set-lt, drop-drop}
use borrow.Author.Tests.{eq-eqb, ne_eqb}
use Rattle.stream.specs.Gather.{Gathered, gather_one, gather_all, gathered, Whole, last_or}
use Rattle.stream.specs.Gather.Whole.{none, also}

-- payloads joined, and one more behind them
pub flatten_append : (front back : List (List ℕ)) → flatten (front ++ back) ≡ flatten front ++ flatten back
unfolding flatten
flatten_append [] back = refl
flatten_append (payload ∷ front) back = ap (λ (s : List ℕ). payload ++ s) (flatten_append front back) ∙ sym (append_assoc payload (flatten front) (flatten back))

flatten_one : (payload : List ℕ) → flatten (payload ∷ []) ≡ payload
unfolding flatten
flatten_one payload = append-nil payload

pub whole_append : {size : ℕ} {front back : List (List ℕ)} → Whole size front → Whole size back → Whole size (front ++ back)
whole_append none back = back
whole_append (also long front) back = also long (whole_append front back)

pub whole_length : {size : ℕ} (payloads : List (List ℕ)) → Whole size payloads → length (flatten payloads) ≡ length payloads * size
unfolding flatten
whole_length [] none = omega arith
whole_length (payload ∷ more) (also long whole) = omega (arith, length-append payload (flatten more), long, whole_length more whole)

last_one : (other payload : List ℕ) (front : List (List ℕ)) → last_or other (front ++ (payload ∷ [])) ≡ payload
unfolding last_or
last_one other payload [] = refl
last_one other payload (x ∷ front) = last_one x payload front

-- one byte: the buffer is full then, or not
module _ (size : ℕ) (g : Gathered) (x : ℕ) where
  pub one_full : g.filled + 1 ≡ size
      → gather_one size g x ≡ record { buffer = set g.buffer g.filled x; filled = 0; full = g.full ++ (set g.buffer g.filled x ∷ []) }
  unfolding gather_one
  one_full is = rw (eq-eqb (g.filled + 1) size is)

  pub one_more : (g.filled + 1 ≡ size → ⊥) → gather_one size g x ≡ record { buffer = set g.buffer g.filled x; filled = g.filled + 1; full = g.full }
  unfolding gather_one
  one_more other = rw (ne_eqb (g.filled + 1) size other)

-- a buffer of one payload with room for a byte at least; `first` is what it held when no payload was full yet, and its bytes that are not laid over stay
pub record Gathering (size : ℕ) (first : List ℕ) (g : Gathered) : Type 0 where
  pub room : g.filled < size
  pub long : length g.buffer ≡ size
  pub whole : Whole size g.full
  pub stays : drop g.filled g.buffer ≡ drop g.filled (last_or first g.full)

-- all that was gathered, in order
abbrev pub stream_of : Gathered → List ℕ
stream_of g = flatten g.full ++ take g.filled g.buffer

module _ {size : ℕ} {first : List ℕ} {g : Gathered} (at : Gathering size first g) (x : ℕ) where
  laid : take (g.filled + 1) (set g.buffer g.filled x) ≡ take g.filled g.buffer ++ (x ∷ [])
  laid = rw add-one (take-suc-set g.buffer g.filled x (omega (arith, at.long, at.room)))

  full_laid : g.filled + 1 ≡ size → set g.buffer g.filled x ≡ take g.filled g.buffer ++ (x ∷ [])
  full_laid is = sym (take_all (g.filled + 1) (set g.buffer g.filled x) (omega (arith, length-set g.buffer g.filled x, at.long))) ∙ laid

  pub gathering_one : Gathering size first (gather_one size g x)
  gathering_one = by (ℕ_discrete (g.filled + 1) size)
    where
      by : Dec (g.filled + 1 ≡ size) → Gathering size first (gather_one size g x)
      by (yes is) =
          rw (one_full size g x is)
          (record {
            room = omega arith;
            long = length-set g.buffer g.filled x ∙ at.long;
            whole = whole_append at.whole (also (length-set g.buffer g.filled x ∙ at.long) none);
            stays = sym (last_one first (set g.buffer g.filled x) g.full);
          })
      by (no other) =
          rw (one_more size g x other)
          (record {
            room = omega (arith, at.room, other);
            long = length-set g.buffer g.filled x ∙ at.long;
            whole = at.whole;
            stays =
                drop-set-lt (g.filled + 1) g.buffer g.filled x (omega arith)
                ∙ sym (drop-drop 1 g.filled g.buffer)
                ∙ ap (drop 1) at.stays
                ∙ drop-drop 1 g.filled (last_or first g.full);
          })

  stream_one : stream_of (gather_one size g x) ≡ stream_of g ++ (x ∷ [])
  stream_one = by (ℕ_discrete (g.filled + 1) size)
    where
      by : Dec (g.filled + 1 ≡ size) → stream_of (gather_one size g x) ≡ stream_of g ++ (x ∷ [])
      by (yes is) =
          rw (one_full size g x is)
          (append-nil (flatten (g.full ++ (set g.buffer g.filled x ∷ [])))
          ∙ flatten_append g.full (set g.buffer g.filled x ∷ [])
          ∙ ap (λ (s : List ℕ). flatten g.full ++ s) (flatten_one (set g.buffer g.filled x) ∙ full_laid is)
          ∙ sym (append_assoc (flatten g.full) (take g.filled g.buffer) (x ∷ [])))
      by (no other) =
          rw (one_more size g x other)
          (ap (λ (s : List ℕ). flatten g.full ++ s) laid ∙ sym (append_assoc (flatten g.full) (take g.filled g.buffer) (x ∷ [])))

pub gathering_all : {size : ℕ} {first : List ℕ} {g : Gathered} → Gathering size first g → (bytes : List ℕ) → Gathering size first (gather_all size g bytes)
unfolding gather_all
gathering_all at [] = at
gathering_all {size = size} {g = g} at (x ∷ bytes) = gathering_all {g = gather_one size g x} (gathering_one at x) bytes

stream_all : {size : ℕ} {first : List ℕ} {g : Gathered} → Gathering size first g → (bytes : List ℕ) → stream_of (gather_all size g bytes) ≡ stream_of g ++ bytes
unfolding gather_all
stream_all {g} at [] = sym (append-nil (stream_of g))
stream_all {size} {first} {g} at (x ∷ bytes) =
    stream_all {g = gather_one size g x} (gathering_one at x) bytes ∙ ap (λ (s : List ℕ). s ++ bytes) (stream_one at x) ∙ append_assoc (stream_of g) (x ∷ []) bytes

-- from a buffer of one payload that is filled so far
module _ (size : ℕ) (buffer : List ℕ) (filled : ℕ) (room : filled < size) (long : length buffer ≡ size) (bytes : List ℕ) where
  started : Gathering size buffer (record { buffer = buffer; filled = filled; full = [] })
  unfolding last_or
  started = record { room = room; long = long; whole = none; stays = refl }

  pub gathered_holds : Gathering size buffer (gathered size buffer filled bytes)
  gathered_holds = gathering_all started bytes

  -- nothing is lost, and nothing added
  pub gathered_bytes : flatten (gathered size buffer filled bytes).full ++ take (gathered size buffer filled bytes).filled (gathered size buffer filled bytes).buffer
      ≡ take filled buffer ++ bytes
  unfolding flatten
  gathered_bytes = stream_all started bytes

  in_all : length (gathered size buffer filled bytes).full * size + (gathered size buffer filled bytes).filled ≡ filled + length bytes
  in_all =
      let at = gathered_holds in
      omega (
        arith,
        whole_length (gathered size buffer filled bytes).full at.whole,
        length-append (flatten (gathered size buffer filled bytes).full) (take (gathered size buffer filled bytes).filled (gathered size buffer filled bytes).buffer),
        length-take-le (gathered size buffer filled bytes).filled (gathered size buffer filled bytes).buffer (omega (arith, at.room, at.long)),
        ap length gathered_bytes,
        length-append (take filled buffer) bytes,
        length-take-le filled buffer (omega (arith, room, long)),
      )

  -- how many payloads become full, and where the next byte will lie: byte j at (filled + j) mod size
  pub gathered_count : length (gathered size buffer filled bytes).full ≡ (filled + length bytes) / size
  gathered_count =
      sym (ap (λ (n : ℕ). n / size) (sym in_all)
      ∙ mul-add-div_right (omega (arith, room)) (length (gathered size buffer filled bytes).full) (gathered size buffer filled bytes).filled
      ∙ rw (div-eq_of_lt gathered_holds.room) (omega arith))

  pub gathered_filled : (gathered size buffer filled bytes).filled ≡ (filled + length bytes) % size
  gathered_filled =
      sym (ap (λ (n : ℕ). n % size) (sym in_all)
      ∙ mul-add-mod_self_right (length (gathered size buffer filled bytes).full) size (gathered size buffer filled bytes).filled
      ∙ mod-eq_of_lt gathered_holds.room)

  -- "bytes not laid over stay": where no payload became full those of the buffer, else those of the last that did
  pub gathered_stays : (gathered size buffer filled bytes).full ≡ []
      → drop (gathered size buffer filled bytes).filled (gathered size buffer filled bytes).buffer ≡ drop (gathered size buffer filled bytes).filled buffer
  unfolding last_or
  gathered_stays never = gathered_holds.stays ∙ ap (λ (full : List (List ℕ)). drop (gathered size buffer filled bytes).filled (last_or buffer full)) never
