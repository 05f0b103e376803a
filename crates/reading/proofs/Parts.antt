-- Bytes read into the back of a buffer, behind those that were read before: what stands in front is then both, in their order.
use Rattle.std.proofs.Common.{◌≡◌, ℕ, ◌+◌, ◌-◌, ◌≤◌, List, ◌++◌, length, take, ap, sym, subst, ◌∙◌, append_assoc}
use Rattle.std.specs.Prelude.{Option, None, Some}
use Rattle.std.proofs.Math.Seq.{take-append-add, length-take-le}
use Rattle.std.proofs.lemmas.List.{take-append-le}
use Rattle.std.specs.Io.KnownBytes.{Consumes}
use borrow.Rule.Slice.PartMut.{put_mid}

consumed_on : (a b c : Option (List ℕ)) (xs ys : List ℕ) → Consumes a b xs → Consumes b c ys → Consumes a c (xs ++ ys)
consumed_on None b c xs ys first second = tt
consumed_on (Some ls) None c xs ys first second = absurd first
consumed_on (Some ls) (Some bs) None xs ys first second = absurd second
consumed_on (Some ls) (Some bs) (Some cs) xs ys first second = first ∙ ap (λ (l : List ℕ). xs ++ l) second ∙ sym (append_assoc xs ys cs)

read_behind : (buffer part : List ℕ) (d n : ℕ) → d ≤ length buffer → n ≤ length part
    → take (d + n) (put_mid d (length buffer - d) buffer part) ≡ take d buffer ++ take n part
read_behind buffer part d n inside fits =
    let long : length (take d buffer) ≡ d = length-take-le d buffer inside in
    ap (λ (k : ℕ). take (k + n) (put_mid d (length buffer - d) buffer part)) (sym long)
    ∙ take-append-add (take d buffer) _ n ∙ ap (λ (l : List ℕ). take d buffer ++ l) (take-append-le n part _ fits)

pub more_read : (a b c : Option (List ℕ)) (buffer part : List ℕ) (d n : ℕ) → d ≤ length buffer → n ≤ length part → Consumes a b (take d buffer) → Consumes b c (take n part)
    → Consumes a c (take (d + n) (put_mid d (length buffer - d) buffer part))
more_read a b c buffer part d n inside fits first second = subst' (sym (read_behind buffer part d n inside fits))
  where
    subst' : {l : List ℕ} → take d buffer ++ take n part ≡ l → Consumes a c l
    subst' e = subst (λ (l : List ℕ). Consumes a c l) e (consumed_on a b c _ _ first second)
