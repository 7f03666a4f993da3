-- What is read has its keys in byte order.
use Rattle.std.proofs.Common.{◌≡◌, ℕ, List, Option, Some, None, option_map, option_and_then, Less, Equal, Greater, nat_cmp, refl, ap, ◌∙◌}
use Rattle.std.proofs.lemmas.Cmp.{nat_list_cmp_total}
use Rattle.std.proofs.lemmas.Option.{option_and_then_some}
use Rattle.std.specs.Cmp.Lexicographic.{slice_cmp}
use Rattle.std.specs.Ordering.{match_ordering, ordering_reverse}
use Rattle.json.specs.Json as json
use Rattle.json.specs.Lex.{tokens}
use Rattle.serde_json.specs.Data.{Data, null, boolean, number, string, array, object, Members, no_members, member, put}
use Rattle.serde_json.specs.Find.{as_object}
use Rattle.serde_json.specs.Read.{max_depth, of_json, of_items, of_members, number_of}
use Rattle.json_fields.specs.Fields.{keys_in}
use Rattle.json_fields.specs.Laws.{Rises, KeysRise}

-- the key is below the first of the members
abbrev IsBelow : List ℕ → Members → Type 0
IsBelow k no_members = Unit {0}
IsBelow k (member l d ms) = slice_cmp nat_cmp k l ≡ Less

-- each key is below the next
abbrev Ascends : Members → Type 0
Ascends no_members = Unit {0}
Ascends (member k d ms) = IsBelow k ms × Ascends ms

-- two keys the other way round
turned : (k l : List ℕ) → slice_cmp nat_cmp k l ≡ Greater → slice_cmp nat_cmp l k ≡ Less
turned k l e = nat_list_cmp_total.antisymm l k ∙ ap ordering_reverse e

-- a key stays below what another is put into
IsBelow-put : (q k : List ℕ) (d : Data) (ms : Members) → slice_cmp nat_cmp q k ≡ Less → IsBelow q ms → IsBelow q (put k d ms)
IsBelow-put q k d no_members below rest = below
IsBelow-put q k d (member l e ms) below rest =
    elim (slice_cmp nat_cmp k l) as (λ o. IsBelow q (match_ordering o (member k d (member l e ms)) (member l d ms) (member l e (put k d ms))))
    [ Less ↦ below | Equal ↦ rest | Greater ↦ rest ]

Ascends-put : (k : List ℕ) (d : Data) (ms : Members) → Ascends ms → Ascends (put k d ms)
Ascends-put k d no_members h = (tt, tt)
Ascends-put k d (member l e ms) h =
    elim (slice_cmp nat_cmp k l) as (λ o. slice_cmp nat_cmp k l ≡ o → Ascends (match_ordering o (member k d (member l e ms)) (member l d ms) (member l e (put k d ms))))
    [ Less ↦ λ is. (is, h) | Equal ↦ λ is. h | Greater ↦ λ is. (IsBelow-put l k d ms (turned k l is) h.0, Ascends-put k d ms h.1) ] refl

-- the members of an object are put one by one into what was found before
members_ascend : (js : json.Members) (found r : Members) → Ascends found → of_members js found ≡ Some r → Ascends r
members_ascend json.no_members found r h e = let same : found ≡ r = cc in rw (← same) h
members_ascend (json.member k j js) found r h e =
    option_and_then_some (λ d. of_members js (put k d found)) (of_json j) r e (λ d is more. members_ascend js (put k d found) r (Ascends-put k d found h) more)

-- the members of a value that is an object ascend
abbrev IsOrdered : Data → Type 0
IsOrdered null = Unit {0}
IsOrdered (boolean b) = Unit {0}
IsOrdered (number n) = Unit {0}
IsOrdered (string s) = Unit {0}
IsOrdered (array ds) = Unit {0}
IsOrdered (object ms) = Ascends ms

-- what `option_map` gave came from somewhere
mapped : {A B P : Type 0} (f : A → B) (o : Option A) (y : B) → option_map f o ≡ Some y → ((x : A) → o ≡ Some x → f x ≡ y → P) → P
mapped f None y e k = cc e
mapped f (Some x) y e k = k x refl (cc e)

json_is_ordered : (j : json.Json) (d : Data) → of_json j ≡ Some d → IsOrdered d
json_is_ordered json.null d e = let same : null ≡ d = cc in rw (← same) tt
json_is_ordered (json.boolean b) d e = let same : boolean b ≡ d = cc in rw (← same) tt
json_is_ordered (json.number s) d e = mapped number (number_of s) d e (λ n is same. rw (← same) tt)
json_is_ordered (json.string s) d e = let same : string s ≡ d = cc in rw (← same) tt
json_is_ordered (json.array js) d e = mapped array (of_items js) d e (λ ds is same. rw (← same) tt)
json_is_ordered (json.object js) d e = mapped object (of_members js no_members) d e (λ ms is same. rw (← same) (members_ascend js no_members ms tt is))

Ascends-rises : (ms : Members) → Ascends ms → Rises (keys_in ms)
Ascends-rises no_members h = tt
Ascends-rises (member k d no_members) h = tt
Ascends-rises (member k d (member l e ms)) h = (h.0, Ascends-rises (member l e ms) h.1)

object_ascends : (d : Data) (ms : Members) → as_object d ≡ Some ms → IsOrdered d → Ascends ms
object_ascends null ms e h = cc e
object_ascends (boolean b) ms e h = cc e
object_ascends (number n) ms e h = cc e
object_ascends (string s) ms e h = cc e
object_ascends (array ds) ms e h = cc e
object_ascends (object found) ms e h = let same : found ≡ ms = cc in rw (← same) h

pub keys_rise : KeysRise
keys_rise text d ms e is =
    option_and_then_some of_json (option_and_then (λ p. json.if_last p.0 p.1) (json.value max_depth (tokens text))) d e
    (λ j j_is d_is. Ascends-rises ms (object_ascends d ms is (json_is_ordered j d d_is)))
