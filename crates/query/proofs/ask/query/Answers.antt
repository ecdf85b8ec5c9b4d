-- `query` meets its contract: the tests of the definition in order, then the walk.
use mathlib.Core.Path.{refl, sym, ◌∙◌}
use native.Mathlib.Omega.{arith}
use Rattle.query.proofs.Asking.{query_unsized, some_words, query_fault, query_witness, query_header, query_walk}
use borrow.Author.Rules.{rules}
use Rattle.query.proofs.ask.query.Goals as goal

pub returns-then-not-sized : goal.returns-then-not-sized
returns-then-not-sized c =
    let a = c.args in
    query_unsized a.tree.now a.words.now a.budget a.witness.now c.sized.ensures c.if-not-sized.true

pub returns-in_default : goal.returns-in_default
returns-in_default c =
    let a = c.args in
    query_fault a.tree.now a.words.now a.budget a.witness.now c.sized.ensures c.if-not-sized.false
    c.unwrap_err.ensures c.read-shape.ensures refl

pub returns-then-witness-lt-WORDS : goal.returns-then-witness-lt-WORDS
returns-then-witness-lt-WORDS c =
    let a = c.args in
    query_witness a.tree.now a.words.now a.budget a.witness.now c.sized.ensures c.if-not-sized.false
    (sym c.read-shape.ensures ∙ c.in-Ok.is) c.if-witness-lt-WORDS.true

pub bounds-tree-0 : goal.bounds-tree-0
bounds-tree-0 c =
    let a = c.args in
    let n = some_words a.tree.now a.words.now a.budget a.witness.now c.sized.ensures c.if-not-sized.false in
    search rules

pub overflow_sub-tree : goal.overflow_sub-tree
overflow_sub-tree c =
    let a = c.args in
    let n = some_words a.tree.now a.words.now a.budget a.witness.now c.sized.ensures c.if-not-sized.false in
    search rules

pub returns-then-header-tree : goal.returns-then-header-tree
returns-then-header-tree c =
    let a = c.args in
    query_header a.tree.now a.words.now a.budget a.witness.now c.sized.ensures c.if-not-sized.false
    (sym c.read-shape.ensures ∙ c.in-Ok.is) c.if-witness-lt-WORDS.false c.header-header.ensures.0 c.if-header-tree.true

pub search-requires : goal.search-requires
search-requires c =
    let a = c.args in
    let n = some_words a.tree.now a.words.now a.budget a.witness.now c.sized.ensures c.if-not-sized.false in
    ((_, sym c.read-shape.ensures ∙ c.in-Ok.is), omega arith, omega (arith, c.header-header.ensures.0, c.if-header-tree.false), c.if-witness-lt-WORDS.false)

pub returns : goal.returns
returns c =
    let a = c.args in
    c.search.ensures
    ∙ query_walk a.tree.now a.words.now a.budget a.witness.now c.sized.ensures c.if-not-sized.false
    (sym c.read-shape.ensures ∙ c.in-Ok.is) c.if-witness-lt-WORDS.false c.header-header.ensures.0 c.if-header-tree.false
