-- Gathering in parts: bytes behind bytes, and that two calls in a row are one.
use Prim.Native.Nat.{ℕ, ◌+◌}
use mathlib.Core.Path.{◌≡◌, refl, sym, ap, ◌∙◌}
use mathlib.Core.List.{List, [], ◌∷◌, ◌++◌, append_assoc, append-nil}
use native.Mathlib.Decide.{ℕ_discrete}
use lib.ListN.{set}
use Rattle.stream.specs.Gather.{Gathered, gather_one, gather_all, gathered}
use Rattle.stream.proofs.Gather.{one_full, one_more}

-- bytes behind bytes
pub gather_append : (size : ℕ) (g : Gathered) (s t : List ℕ) → gather_all size g (s ++ t) ≡ gather_all size (gather_all size g s) t
unfolding gather_all
gather_append size g [] t = refl
gather_append size g (x ∷ s) t = gather_append size (gather_one size g x) s t

-- payloads that were full before stay in front
abbrev pub behind : List (List ℕ) → Gathered → Gathered
behind front g = record { buffer = g.buffer; filled = g.filled; full = front ++ g.full }

one_behind : (size : ℕ) (front : List (List ℕ)) (g : Gathered) (x : ℕ) → gather_one size (behind front g) x ≡ behind front (gather_one size g x)
one_behind size front g x = by (ℕ_discrete (g.filled + 1) size)
  where
    by : Dec (g.filled + 1 ≡ size) → gather_one size (behind front g) x ≡ behind front (gather_one size g x)
    by (yes is) =
        one_full size (behind front g) x is
        ∙ ap (λ (full : List (List ℕ)). record { buffer = set g.buffer g.filled x; filled = 0; full = full })
        (append_assoc front g.full (set g.buffer g.filled x ∷ []))
        ∙ ap (behind front) (sym (one_full size g x is))
    by (no other) = one_more size (behind front g) x other ∙ ap (behind front) (sym (one_more size g x other))

gather_behind : (size : ℕ) (front : List (List ℕ)) (g : Gathered) (bytes : List ℕ) → gather_all size (behind front g) bytes ≡ behind front (gather_all size g bytes)
unfolding gather_all
gather_behind size front g [] = refl
gather_behind size front g (x ∷ bytes) =
    ap (λ (h : Gathered). gather_all size h bytes) (one_behind size front g x) ∙ gather_behind size front (gather_one size g x) bytes

-- two calls in a row are one: the second goes on with the buffer and the filled count of the first
pub gather_compose : (size : ℕ) (buffer : List ℕ) (filled : ℕ) (s t : List ℕ)
    → gathered size buffer filled (s ++ t)
    ≡ behind (gathered size buffer filled s).full (gathered size (gathered size buffer filled s).buffer (gathered size buffer filled s).filled t)
gather_compose size buffer filled s t =
    let one = gathered size buffer filled s in
    gather_append size (record { buffer = buffer; filled = filled; full = [] }) s t
    ∙ ap (λ (full : List (List ℕ)). gather_all size (record { buffer = one.buffer; filled = one.filled; full = full }) t) (sym (append-nil one.full))
    ∙ gather_behind size one.full (record { buffer = one.buffer; filled = one.filled; full = [] }) t

-- one byte first: the rest goes on from the buffer with it, or from an empty count behind the payload that it filled
module _ (size : ℕ) (buffer : List ℕ) (filled x : ℕ) (rest : List ℕ) where
  pub gathered_within : (filled + 1 ≡ size → ⊥) → gathered size buffer filled (x ∷ rest) ≡ gathered size (set buffer filled x) (filled + 1) rest
  unfolding gather_all
  gathered_within other = ap (λ (g : Gathered). gather_all size g rest) (one_more size (record { buffer = buffer; filled = filled; full = [] }) x other)

  pub gathered_full : filled + 1 ≡ size
      → gathered size buffer filled (x ∷ rest) ≡ behind (set buffer filled x ∷ []) (gathered size (set buffer filled x) 0 rest)
  unfolding gather_all
  gathered_full is =
      ap (λ (g : Gathered). gather_all size g rest) (one_full size (record { buffer = buffer; filled = filled; full = [] }) x is)
      ∙ gather_behind size (set buffer filled x ∷ []) (record { buffer = set buffer filled x; filled = 0; full = [] }) rest
