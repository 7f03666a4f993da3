-- Facts of calls that may fail, and of lists that are replaced.
use Rattle.std.proofs.Common.{◌≡◌, List, Vec, Global, false, is_err, length, arith, sym, true≢false}
use Rattle.std.specs.Prelude.{Err, IfErr, Ok, OnErr, OnOk, Result}
use Rattle.std.specs.Vec.{with_items}
use Rattle.std.proofs.lemmas.List.{with_items_is}

pub OnOk-map : {X E : Type 0} (r : Result X E) {P Q : Type 0} → (P → Q) → OnOk r P → OnOk r Q
OnOk-map (Ok x) f h = f h
OnOk-map (Err e) f h = h

pub OnErr-map : {X E : Type 0} (r : Result X E) {P Q : Type 0} → (P → Q) → OnErr r P → OnErr r Q
OnErr-map (Ok x) f h = h
OnErr-map (Err e) f h = f h

-- a list of the same length takes the items' place
pub items-replaced : {X : Type 0} (v : Vec X Global) (ws : List X) → length ws ≡ length v.items → (with_items v ws).items ≡ ws
items-replaced v ws e = with_items_is v ws (omega (arith, e, v.ok.0))

pub OnErr-always : {X E : Type 0} (r : Result X E) {P : Type 0} → P → OnErr r P
OnErr-always (Ok x) h = tt
OnErr-always (Err e) h = h

pub OnOk-held : {X E : Type 0} (r : Result X E) {P : Type 0} → false ≡ is_err r → OnOk r P → P
OnOk-held (Ok x) e h = h
OnOk-held (Err why) e h = absurd (true≢false (sym e))

pub IfErr-map : {X E : Type 0} (r : Result X E) {P Q : E → Type 0} → ((e : E) → P e → Q e) → IfErr r P → IfErr r Q
IfErr-map (Ok x) f h = h
IfErr-map (Err e) f h = f e h
