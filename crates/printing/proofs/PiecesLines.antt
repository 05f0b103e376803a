-- The line of an entry in its pieces, and the lines of entries one behind another.
use Prim.Native.Nat.{ℕ, suc, ◌+◌, ◌-◌, ◌≤◌, ◌<◌, ◌/◌, ◌%◌}
use mathlib.Core.Path.{◌≡◌, refl, sym, ap, ◌∙◌, subst}
use mathlib.Core.List.{List, ◌++◌, append_assoc}
use native.Mathlib.Omega.{arith}
use Rattle.words.specs.Text.{bytes}
use Rattle.pack.specs.declared.Geometry.{Geometry}
use Rattle.pack.specs.declared.Entry.{Entry}
use Rattle.pack.specs.Entry.{entry_of}
use Rattle.printing.specs.Listing.{newline, five, three, spelled, kind_letter, entry_line, line_of, lines_from}
use Rattle.printing.specs.Pieces.{name_text, size_text, uic_text}
use Rattle.printing.specs.Put.{Put}
use Rattle.printing.proofs.Put.{put_nothing, put_then}

-- the pieces make the line
line_pieces : (x : Entry) → name_text x.name1 x.name2 x.extension ++ (size_text x.kind x.length ++ (uic_text x.uic ++ (three x.protect ++ newline)))
    ≡ entry_line x
unfolding name_text size_text uic_text entry_line
line_pieces x = by (spelled x.name1) (spelled x.name2) (spelled x.extension) (kind_letter x.kind) (five x.length) (three (x.uic / 256)) (three (x.uic % 256)) (three x.protect)
  where
    by : (a b c d e f g h : List ℕ)
        → (a ++ (b ++ (bytes "." ++ c))) ++ ((bytes " " ++ (d ++ (bytes " " ++ e))) ++ ((bytes " [" ++ (f ++ (bytes "," ++ (g ++ bytes "] ")))) ++ (h ++ newline)))
        ≡ a ++ (b ++ (bytes "." ++ (c ++ (bytes " " ++ (d ++ (bytes " " ++ (e ++ (bytes " [" ++ (f ++ (bytes "," ++ (g ++ (bytes "] " ++ (h ++ newline)))))))))))))
    by a b c d e f g h = simp append_assoc

pub put_pieces : (x : Entry) {s t u v w z : List ℕ} {i j k l m n : ℕ} → Put s t i j (name_text x.name1 x.name2 x.extension) → Put t u j k (size_text x.kind x.length)
    → Put u v k l (uic_text x.uic) → Put v w l m (three x.protect) → Put w z m n newline → Put s z i n (entry_line x)
put_pieces x {s} {t} {u} {v} {w} {z} {i} {j} {k} {l} {m} {n} name size uic protect end =
    subst (Put s z i n) (line_pieces x) (put_then name (put_then size (put_then uic (put_then protect end))))

-- of n entries those from e on are still to be put
module _ (img : List ℕ) (g : Geometry) where
  lines_suc : (e k : ℕ) → lines_from img g e (suc k) ≡ line_of (entry_of img g e) ++ lines_from img g (e + 1) k
  unfolding lines_from
  lines_suc e k = refl

  pub lines_step : {s t u : List ℕ} {i j k : ℕ} (e n : ℕ) → e < n → Put s t i j (line_of (entry_of img g e)) → Put t u j k (lines_from img g (e + 1) (n - (e + 1)))
      → Put s u i k (lines_from img g e (n - e))
  lines_step {s} {t} {u} {i} {j} {k} e n before line rest =
      let left : n - e ≡ suc (n - (e + 1)) = omega arith in
      subst (Put s u i k) (sym (ap (lines_from img g e) left ∙ lines_suc e (n - (e + 1)))) (put_then line rest)

  pub lines_end : (s : List ℕ) (i e n : ℕ) → n ≤ e → Put s s i i (lines_from img g e (n - e))
  unfolding lines_from
  lines_end s i e n end = let left : n - e ≡ 0 = omega arith in subst (Put s s i i) (sym (ap (lines_from img g e) left)) (put_nothing s i)
