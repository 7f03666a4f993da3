-- The parts of a call: they have fewer nodes, and their primitives have places in the tables as well.
use Rattle.std.proofs.Common.{◌≡◌, ℕ, ◌<◌, ◌&&◌, true, is_some, IsTrue, arith}
use Rattle.std.proofs.lemmas.Bool.{and_parts}
use Rattle.prim_table.specs.Tables.{args1, args2, args3}
use Rattle.plan_model.specs.declared.expr.Expr.{Expr}
use Rattle.plan_model.specs.declared.expr.Expr.TheVariants.{One, Two, Three}
use Rattle.plan_model.specs.Limits.{node_count}
use Rattle.plan_model.specs.Values.{has_places, term_of}
use Rattle.plan_model.proofs.Terms.{term_of-One, term_of-Two, term_of-Three}

-- fewer nodes, and each primitive at a place of its table
abbrev pub IsPartOf : Expr → Expr → Type 0
IsPartOf x e = (node_count (term_of x) < node_count (term_of e)) × IsTrue (has_places (term_of x))

pub part_of-One : (at : ℕ) (x : Expr) → IsTrue (has_places (term_of (One at x))) → IsPartOf x (One at x)
part_of-One at x h =
    let all : (is_some (args1 at) && has_places (term_of x)) ≡ true = (rw term_of-One at h) in
    rw term_of-One (omega arith, (and_parts (is_some (args1 at)) (has_places (term_of x)) all).1)

pub parts_of-Two : (at : ℕ) (x y : Expr) → IsTrue (has_places (term_of (Two at x y))) → IsPartOf x (Two at x y) × IsPartOf y (Two at x y)
parts_of-Two at x y h =
    let all : (is_some (args2 at) && has_places (term_of x) && has_places (term_of y)) ≡ true = (rw term_of-Two at h) in
    let second = and_parts (is_some (args2 at) && has_places (term_of x)) (has_places (term_of y)) all in
    let first = and_parts (is_some (args2 at)) (has_places (term_of x)) second.0 in
    rw term_of-Two ((omega arith, first.1), (omega arith, second.1))

pub parts_of-Three : (at : ℕ) (x y z : Expr) → IsTrue (has_places (term_of (Three at x y z))) →
    IsPartOf x (Three at x y z) × IsPartOf y (Three at x y z) × IsPartOf z (Three at x y z)
parts_of-Three at x y z h =
    let all : (is_some (args3 at) && has_places (term_of x) && has_places (term_of y) && has_places (term_of z)) ≡ true = (rw term_of-Three at h) in
    let third = and_parts (is_some (args3 at) && has_places (term_of x) && has_places (term_of y)) (has_places (term_of z)) all in
    let second = and_parts (is_some (args3 at) && has_places (term_of x)) (has_places (term_of y)) third.0 in
    let first = and_parts (is_some (args3 at)) (has_places (term_of x)) second.0 in
    rw term_of-Three ((omega arith, first.1), (omega arith, second.1), (omega arith, third.1))
