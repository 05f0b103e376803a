-- A line that reads back is written whole, in both modes and without a bit set, and special mode stops behind it; lines put together are put one after another.
use Prim.Native.Nat.{ℕ, ◌-◌}
use mathlib.Core.Path.{◌≡◌, refl, sym, ap, ◌∙◌}
use mathlib.Core.List.{List, [], ◌∷◌, ◌++◌, append_assoc, append-nil, flatten, map}
use native.Mathlib.Omega.{arith}
use lib.ListN.{length, length-append}
use lib.Seq.{get_or_at}
use Rattle.lines.specs.declared.LineMode.{LineMode}
use Rattle.lines.specs.declared.LineMode.TheVariants.{Normal, Special}
use Rattle.lines.specs.LineWrite.{put_all, taken_of, written_status}
use Rattle.lines.specs.LineRoundTrip.{PlainText, nothing, character, TextLine, terminated}
use Rattle.lines.proofs.LineWrite.{put_append, taken_stop, taken_next}

plain_taken : {text : List ℕ} → PlainText text → (more : List ℕ) → taken_of Special (text ++ more) ≡ text ++ taken_of Special more
plain_taken nothing more = refl
plain_taken (character {x} {text} low kept plain rest) more = taken_next Special x (text ++ more) plain ∙ ap (λ (l : List ℕ). x ∷ l) (plain_taken rest more)

pub line_taken : {line : List ℕ} → TextLine line → (more : List ℕ) → taken_of Special (line ++ more) ≡ line
line_taken (terminated {text = text} t plain ends) more =
    rw (append_assoc text (t ∷ []) more) (plain_taken plain (t ∷ more) ∙ ap (λ (l : List ℕ). text ++ l) (taken_stop Special t more ends))

pub line_whole : (mode : LineMode) {line : List ℕ} → TextLine line → taken_of mode line ≡ line
unfolding taken_of
line_whole Normal is = refl
line_whole Special {line} is = sym (ap (λ (l : List ℕ). taken_of Special l) (append-nil line)) ∙ line_taken is []

pub line_status : {line : List ℕ} → TextLine line → written_status line ≡ 0
line_status (terminated {text = text} t plain ends) =
    rw (get_or_at text t [] 0 (length (text ++ (t ∷ [])) - 1) (omega (arith, length-append text (t ∷ []))), ends)

pub put_lines : (lines : List (List ℕ)) → put_all (flatten lines) ≡ flatten (map put_all lines)
unfolding flatten put_all
put_lines [] = refl
put_lines (line ∷ lines) = put_append line (flatten lines) ∙ ap (λ (l : List ℕ). put_all line ++ l) (put_lines lines)
