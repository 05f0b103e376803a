-- Rests on `LookedFields`: words 0 to 3, return by return.
use mathlib.Core.Path.{sym, ◌∙◌}
use native.Mathlib.Omega.{arith}
use borrow.Author.Tests.{not-false}
use Rattle.faults.proofs.LookedFields.{key_begins, key_name, key_extension, key_uic, key_right}
use Rattle.faults.proofs.fields.wrong_key.Goals as goal

pub returns-then-not-is_legal_name : goal.returns-then-not-is_legal_name
returns-then-not-is_legal_name c = λ e. (key_begins _ _ e (sym c.is_legal_name.ensures ∙ c.if-not-is_legal_name.true), omega arith)

pub returns-then-not-is_legal_name-2 : goal.returns-then-not-is_legal_name-2
returns-then-not-is_legal_name-2 c = let begins = sym c.is_legal_name.ensures ∙ c.if-not-is_legal_name.false in
    λ e. (key_name _ _ e begins (sym c.is_legal_name-2.ensures ∙ c.if-not-is_legal_name-2.true), omega arith)

pub returns-then-not-is_legal_extension : goal.returns-then-not-is_legal_extension
returns-then-not-is_legal_extension c = let begins = sym c.is_legal_name.ensures ∙ c.if-not-is_legal_name.false in
    let name = sym c.is_legal_name-2.ensures ∙ c.if-not-is_legal_name-2.false in
    λ e. (key_extension _ _ e begins name (sym c.is_legal_extension.ensures ∙ c.if-not-is_legal_extension.true), omega arith)

pub returns-then-not-is_listed : goal.returns-then-not-is_listed
returns-then-not-is_listed c = let begins =
    sym c.is_legal_name.ensures ∙ not-false _
    c.if-not-is_legal_name.false-raw in
    let name = sym c.is_legal_name-2.ensures ∙ c.if-not-is_legal_name-2.false in
    let extension = sym c.is_legal_extension.ensures ∙ c.if-not-is_legal_extension.false in
    λ e. (key_uic _ _ e begins name extension (sym c.is_listed.ensures ∙ c.if-not-is_listed.true), omega arith)

pub returns : goal.returns
returns c = let begins =
    sym c.is_legal_name.ensures ∙ not-false _
    c.if-not-is_legal_name.false-raw in
    let name = sym c.is_legal_name-2.ensures ∙ c.if-not-is_legal_name-2.false in
    let extension = sym c.is_legal_extension.ensures ∙ c.if-not-is_legal_extension.false in
    λ e. key_right _ _ e begins name extension (sym c.is_listed.ensures ∙ c.if-not-is_listed.false)
