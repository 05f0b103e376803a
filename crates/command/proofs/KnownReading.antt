-- What is known from the answers is the whole reading: readings of which the same is known are the same.
use Prim.Native.Nat.{ℕ, zero, suc, ◌-◌, ◌≤◌}
use mathlib.Core.Path.{◌≡◌, refl, sym, ap, ◌∙◌}
use mathlib.Core.List.{List, [], ◌∷◌, ◌++◌}
use mathlib.Core.Option.{Option, none, some}
use mathlib.Core.Bool.{Bool, true, false}
use native.Mathlib.Omega.{arith}
use lib.ListN.{length, take, drop, replicate, length-append, length-take, length-drop, take-append-drop, length-replicate}
use Rattle.radix.specs.Names.{is_letter, is_letter_or_digit, blank, blank_filled}
use Rattle.radix.proofs.Packing.{word_pair}
use Rattle.command_cursor.specs.FilledWord.{filled_word, first_word, second_word}
use Rattle.command_cursor.proofs.Classes.{letters_named}
use Rattle.command_cursor.proofs.FilledWord.{filled_word_law, all_take, all_drop}
use Rattle.command_grammar.specs.Parsed.{Device, FileName, Uic, Switch, Specification, Parsed}
use Rattle.command_grammar.specs.Grammar.{All, nil, cons, Between, IsDevice, IsFile, AreValues, IsSwitch, AreSwitches, IsSpecification, IsSide, Command}
use Rattle.command_grammar.specs.Grammar as G
use Rattle.command_grammar.specs.Reading.{Reading, Reads, reads, side_of}
use Rattle.command_grammar.proofs.ReaderHeads.{letter_alnum}
use Rattle.command_parts.specs.declared.Numbers.{Numbers}
use Rattle.command_parts.specs.Numbers.{numbers_of, device_word, unit_of, name_first, name_second, extension_word, group_of, user_of, is_present, is_extended, bit, present_bits}
use Rattle.command.specs.Csi2.{asking_answer}
use Rattle.command.specs.Known.{Pair, pair_of, DecodedSwitch, value_numbers, switch_numbers, Known, known_of}
use Rattle.command.specs.Asking as A

-- names and their words

-- characters, none of them a blank, and then blanks
same_front : {s t : List ℕ} (m n : ℕ) → All is_letter_or_digit s → All is_letter_or_digit t → s ++ replicate m blank ≡ t ++ replicate n blank → s ≡ t
same_front m n nil nil is = refl
same_front zero n nil (cons e a) is = let z : ◌≡◌ {A = ℕ} 0 1 = cc in absurd (omega arith)
same_front (suc m) n nil (cons {c} e a) is =
    let first : blank ≡ c = cc in
    let wrong : false ≡ true = ap is_letter_or_digit first ∙ e in
    let z : ◌≡◌ {A = ℕ} 0 1 = cc in absurd (omega arith)
same_front m zero (cons e a) nil is = let z : ◌≡◌ {A = ℕ} 0 1 = cc in absurd (omega arith)
same_front m (suc n) (cons {c} e a) nil is =
    let first : blank ≡ c = cc in
    let wrong : false ≡ true = ap is_letter_or_digit first ∙ e in
    let z : ◌≡◌ {A = ℕ} 0 1 = cc in absurd (omega arith)
same_front m n (cons {c} {s} e a) (cons {c = d} {s = t} f b) is =
    let first : c ≡ d = cc in
    let rest : s ++ replicate m blank ≡ t ++ replicate n blank = cc in
    let behind : s ≡ t = same_front m n a b rest in
    cc

filled_long : (s : List ℕ) → length s ≤ 3 → length (blank_filled 3 s) ≡ 3
filled_long s few = simp (length-append, length-replicate) (omega arith)

word_same : {s t : List ℕ} → length s ≤ 3 → length t ≤ 3 → All is_letter_or_digit s → All is_letter_or_digit t → filled_word s ≡ filled_word t → s ≡ t
word_same {s} {t} few few' a b is =
    let one = word_pair.forth (blank_filled 3 s) (filled_word s) (filled_long s few) (filled_word_law s few a) in
    let other = word_pair.forth (blank_filled 3 t) (filled_word t) (filled_long t few') (filled_word_law t few' b) in
    let filled : blank_filled 3 s ≡ blank_filled 3 t = cc in
    same_front (3 - length s) (3 - length t) a b filled

name_same : {n m : List ℕ} → Between 1 6 is_letter_or_digit n → Between 1 6 is_letter_or_digit m → pair_of n ≡ pair_of m → n ≡ m
name_same {n} {m} a b is =
    let first : take 3 n ≡ take 3 m =
    word_same (simp length-take (omega arith)) (simp length-take (omega arith)) (all_take 3 a.all) (all_take 3 b.all) (ap (λ (p : Pair). p.first) is) in
    let second : drop 3 n ≡ drop 3 m =
    word_same (simp length-drop (omega (arith, a.most))) (simp length-drop (omega (arith, b.most))) (all_drop 3 a.all) (all_drop 3 b.all) (ap (λ (p : Pair). p.second) is) in
    sym (take-append-drop 3 n) ∙ ap (λ (l : List ℕ). l ++ drop 3 n) first ∙ ap (λ (l : List ℕ). take 3 m ++ l) second ∙ take-append-drop 3 m

-- switches

values_same : (s t : List ℕ) (vs us : List (List ℕ)) → AreValues s vs → AreValues t us → value_numbers vs ≡ value_numbers us → vs ≡ us
unfolding value_numbers
values_same s t vs us G.AreValues.end G.AreValues.end is = refl
values_same s t vs us G.AreValues.end (G.AreValues.more run rest) is = let z : ◌≡◌ {A = ℕ} 0 1 = cc in absurd (omega arith)
values_same s t vs us (G.AreValues.more run rest) G.AreValues.end is = let z : ◌≡◌ {A = ℕ} 0 1 = cc in absurd (omega arith)
values_same s t vs us (G.AreValues.more {v} {s = s₁} {vs = vs₁} run rest) (G.AreValues.more {v = u} {s = t₁} {vs = us₁} run' rest') is =
    let here : pair_of v ≡ pair_of u = cc in
    let behind : value_numbers vs₁ ≡ value_numbers us₁ = cc in
    let value : v ≡ u = name_same run run' here in
    let others : vs₁ ≡ us₁ = values_same s₁ t₁ vs₁ us₁ rest rest' behind in
    cc

decoded_of : Switch → DecodedSwitch
decoded_of w = record { name = pair_of w.name; values = value_numbers w.values }

switch_name : {c : ℕ} {n : List ℕ} → is_letter c ≡ true → Between 0 5 is_letter_or_digit n → Between 1 6 is_letter_or_digit (c ∷ n)
switch_name {c} letter run = record { all = cons (letter_alnum c letter) run.all; least = omega arith; most = omega (arith, run.most) }

switch_same : (s t : List ℕ) (w u : Switch) → IsSwitch s w → IsSwitch t u → decoded_of w ≡ decoded_of u → w ≡ u
unfolding decoded_of
switch_same s t w u (G.IsSwitch.switch {c} {n} {s = s₁} {vs} letter run values) (G.IsSwitch.switch {c = d} {n = m} {s = t₁} {vs = us} letter' run' values') is =
    let name : ◌≡◌ {A = List ℕ} (c ∷ n) (d ∷ m) = name_same (switch_name letter run) (switch_name letter' run') (ap (λ (x : DecodedSwitch). x.name) is) in
    let others : vs ≡ us = values_same s₁ t₁ vs us values values' (ap (λ (x : DecodedSwitch). x.values) is) in
    rw (name, others)

switches_same : (s t : List ℕ) (ws us : List Switch) → AreSwitches s ws → AreSwitches t us → switch_numbers ws ≡ switch_numbers us → ws ≡ us
unfolding switch_numbers decoded_of
switches_same s t ws us G.AreSwitches.end G.AreSwitches.end is = refl
switches_same s t ws us G.AreSwitches.end (G.AreSwitches.more one rest) is = let z : ◌≡◌ {A = ℕ} 0 1 = cc in absurd (omega arith)
switches_same s t ws us (G.AreSwitches.more one rest) G.AreSwitches.end is = let z : ◌≡◌ {A = ℕ} 0 1 = cc in absurd (omega arith)
switches_same s t ws us (G.AreSwitches.more {s = s₁} {t = s₂} {w} {ws = ws₁} one rest) (G.AreSwitches.more {s = t₁} {t = t₂} {w = u} {ws = us₁} one' rest') is =
    let here : decoded_of w ≡ decoded_of u = cc in
    let behind : switch_numbers ws₁ ≡ switch_numbers us₁ = cc in
    let switch : w ≡ u = switch_same s₁ t₁ w u one one' here in
    let others : ws₁ ≡ us₁ = switches_same s₂ t₂ ws₁ us₁ rest rest' behind in
    cc

-- the other parts

device_same : (a b : List ℕ) (d e : Option Device) → IsDevice a d → IsDevice b e → bit (is_present d) ≡ bit (is_present e) → device_word d ≡ device_word e
    → unit_of d ≡ unit_of e → d ≡ e
device_same a b d e G.IsDevice.absent G.IsDevice.absent present word unit = refl
device_same a b d e G.IsDevice.absent (G.IsDevice.device run digits) present word unit = absurd (omega arith)
device_same a b d e (G.IsDevice.device run digits) G.IsDevice.absent present word unit = absurd (omega arith)
device_same a b d e (G.IsDevice.device run digits) (G.IsDevice.device run' digits') present word unit =
    rw (word_same run.most run'.most (letters_named run.all) (letters_named run'.all) word, unit)

names_same : {n m : List ℕ} → Between 1 6 is_letter_or_digit n → Between 1 6 is_letter_or_digit m → first_word n ≡ first_word m → second_word n ≡ second_word m → n ≡ m
names_same run run' first second = name_same run run' (rw (first, second))

file_same : (a b : List ℕ) (f g : Option FileName) → IsFile a f → IsFile b g → bit (is_present f) ≡ bit (is_present g) → bit (is_extended f) ≡ bit (is_extended g)
    → name_first f ≡ name_first g → name_second f ≡ name_second g → extension_word f ≡ extension_word g → f ≡ g
file_same a b f g G.IsFile.absent G.IsFile.absent present extended first second extension = refl
file_same a b f g G.IsFile.absent (G.IsFile.name run) present extended first second extension = absurd (omega arith)
file_same a b f g G.IsFile.absent (G.IsFile.extended run more) present extended first second extension = absurd (omega arith)
file_same a b f g (G.IsFile.name run) G.IsFile.absent present extended first second extension = absurd (omega arith)
file_same a b f g (G.IsFile.name run) (G.IsFile.name run') present extended first second extension = rw (names_same run run' first second)
file_same a b f g (G.IsFile.name run) (G.IsFile.extended run' more) present extended first second extension = absurd (omega arith)
file_same a b f g (G.IsFile.extended run more) G.IsFile.absent present extended first second extension = absurd (omega arith)
file_same a b f g (G.IsFile.extended run more) (G.IsFile.name run') present extended first second extension = absurd (omega arith)
file_same a b f g (G.IsFile.extended run more) (G.IsFile.extended run' more') present extended first second extension =
    rw (names_same run run' first second, word_same more.most more'.most more.all more'.all extension)

uic_same : (u w : Option Uic) → bit (is_present u) ≡ bit (is_present w) → group_of u ≡ group_of w → user_of u ≡ user_of w → u ≡ w
uic_same none none present group user = refl
uic_same none (some w) present group user = absurd (omega arith)
uic_same (some u) none present group user = absurd (omega arith)
uic_same (some u) (some w) present group user = rw (group, user)

bit_most : (b : Bool) → bit b ≤ 1
bit_most true = omega arith
bit_most false = omega arith

-- "which are present": the four bits are read off their number
record SameBits (a b c d a' b' c' d' : Bool) : Type 0 where
  first : bit a ≡ bit a'
  second : bit b ≡ bit b'
  third : bit c ≡ bit c'
  fourth : bit d ≡ bit d'

same_bits : (a b c d a' b' c' d' : Bool) → present_bits a b c d ≡ present_bits a' b' c' d' → SameBits a b c d a' b' c' d'
same_bits a b c d a' b' c' d' is =
    let ha = bit_most a in
    let hb = bit_most b in
    let hc = bit_most c in
    let hd = bit_most d in
    let ha' = bit_most a' in
    let hb' = bit_most b' in
    let hc' = bit_most c' in
    let hd' = bit_most d' in
    record { first = omega arith; second = omega arith; third = omega arith; fourth = omega arith }

-- a specification

known_as : Specification → Known
known_as v = record { answer = asking_answer (A.Given (numbers_of v)); switches = switch_numbers v.switches }

specification_same : (s t : List ℕ) (v w : Specification) → IsSpecification s v → IsSpecification t w
    → known_as v ≡ known_as w → v ≡ w
unfolding known_as numbers_of
specification_same s t v w
    (G.IsSpecification.specification {a} {b} {e} {d} {f} {u} {ws} is-device is-file is-uic are-switches)
    (G.IsSpecification.specification {a = a'} {b = b'} {e = e'} {d = d'} {f = f'} {u = u'} {ws = ws'} is-device' is-file' is-uic' are-switches') is =
    let numbers = ap (λ (k : Known). k.answer.numbers) is in
    let bits = same_bits (is_present d) (is_present f) (is_extended f) (is_present u)
    (is_present d') (is_present f') (is_extended f') (is_present u') (ap (λ (n : Numbers). n.present) numbers) in
    let device : d ≡ d' = device_same a a' d d' is-device is-device'
    bits.first
    (ap (λ (n : Numbers). n.device) numbers)
    (ap (λ (n : Numbers). n.unit) numbers) in
    let file : f ≡ f' = file_same b b' f f' is-file is-file' bits.second bits.third
    (ap (λ (n : Numbers). n.name1) numbers)
    (ap (λ (n : Numbers). n.name2) numbers)
    (ap (λ (n : Numbers). n.extension) numbers) in
    let uic : u ≡ u' = uic_same u u' bits.fourth
    (ap (λ (n : Numbers). n.group) numbers)
    (ap (λ (n : Numbers). n.user) numbers) in
    let switches : ws ≡ ws' = switches_same e e' ws ws' are-switches are-switches' (ap (λ (k : Known). k.switches) is) in
    rw (device, file, uic, switches)

-- sides, and the whole reading

side_some : (s : List ℕ) (vs : List Specification) → IsSide s vs → known_of vs ≡ [] → ⊥
unfolding known_of
side_some s vs (G.IsSide.one one) is = let z : ◌≡◌ {A = ℕ} 0 1 = cc in omega arith
side_some s vs (G.IsSide.more one rest) is = let z : ◌≡◌ {A = ℕ} 0 1 = cc in omega arith

side_same : (s t : List ℕ) (vs ws : List Specification) → IsSide s vs → IsSide t ws → known_of vs ≡ known_of ws
    → vs ≡ ws
unfolding known_of known_as
side_same s t vs ws (G.IsSide.one {v} one) (G.IsSide.one {v = w} one') is =
    let here : known_as v ≡ known_as w = cc in
    rw (specification_same s t v w one one' here)
side_same s t vs ws (G.IsSide.one one) (G.IsSide.more {t = t₁} {vs = ws₁} one' rest) is =
    let none_left : known_of ws₁ ≡ [] = cc in
    absurd (side_some t₁ ws₁ rest none_left)
side_same s t vs ws (G.IsSide.more {t = s₁} {vs = vs₁} one rest) (G.IsSide.one one') is =
    let none_left : known_of vs₁ ≡ [] = cc in
    absurd (side_some s₁ vs₁ rest none_left)
side_same s t vs ws (G.IsSide.more {s = s₁} {t = s₂} {v} {vs = vs₁} one rest) (G.IsSide.more {s = t₁} {t = t₂} {v = w} {vs = ws₁} one' rest') is =
    let here : known_as v ≡ known_as w = cc in
    let behind : known_of vs₁ ≡ known_of ws₁ = cc in
    rw (specification_same s₁ t₁ v w one one' here, side_same s₂ t₂ vs₁ ws₁ rest rest' behind)

command_same : (line other : List ℕ) (said told : Parsed) → Command line said → Command other told
    → ((side : ℕ) → known_of (side_of side said) ≡ known_of (side_of side told)) → said ≡ told
unfolding side_of known_of
command_same line other said told (G.Command.output {o} output) (G.Command.output {o = o'} output') is =
    rw (side_same line other o o' output output' (is 0))
command_same line other said told (G.Command.output output) (G.Command.both {t} {i} output' input) is =
    absurd (side_some t i input (sym (is 1)))
command_same line other said told (G.Command.both {t} {i} output input) (G.Command.output output') is =
    absurd (side_some t i input (is 1))
command_same line other said told (G.Command.both {s = s₁} {t = s₂} {o} {i} output input) (G.Command.both {s = t₁} {t = t₂} {o = o'} {i = i'} output' input') is =
    rw (side_same s₁ t₁ o o' output output' (is 0), side_same s₂ t₂ i i' input input' (is 1))

pub known_reading : (line other : List ℕ) (r q : Reading) → Reads line r → Reads other q
    → ((side : ℕ) → known_of (side_of side r) ≡ known_of (side_of side q)) → r ≡ q
known_reading line other r q (reads {said} says bounded) (reads {said = told} tells bounded') is = command_same line other said told says tells is
