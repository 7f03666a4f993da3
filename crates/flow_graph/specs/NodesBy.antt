-- What a node means and holds, from what its operator does.
use Rattle.weighted_set.specs.Standing.{KeepsRange, Standing}
use Rattle.flow_graph.specs.Sources.{source_keeps_range, source_standing}
use Rattle.flow_graph.specs.declared.node.NodeOf.{NodeOf}
use Rattle.flow_graph.specs.declared.node.NodeOf.TheVariants.{Source, Filter, Select, Many, Shave, Set, Join, Group}

-- what a node means and holds, from what its operator does
abbrev pub node_by : {F S M H E J G : Type 0} → (F → Standing) → (S → Standing) → (M → Standing) → (H → Standing) → (E → Standing) → (J → Standing) → (G → Standing) → NodeOf F S M H E J G → Standing
node_by f s m h e j g Source = source_standing
node_by f s m h e j g (Filter k) = f k
node_by f s m h e j g (Select k) = s k
node_by f s m h e j g (Many k) = m k
node_by f s m h e j g (Shave k) = h k
node_by f s m h e j g (Set k) = e k
node_by f s m h e j g (Join k) = j k
node_by f s m h e j g (Group k) = g k

-- the output of each is in range where its inputs are and fit
abbrev pub KeepRange : {O : Type 0} → (O → Standing) → Type 0
KeepRange {O} of = (k : O) → KeepsRange (of k).meaning

-- the output of a node is in range where its operator's is
pub node_keeps_range : {F S M H E J G : Type 0} (f : F → Standing) (s : S → Standing) (m : M → Standing) (h : H → Standing) (e : E → Standing) (j : J → Standing) (g : G → Standing)
    → KeepRange f → KeepRange s → KeepRange m → KeepRange h → KeepRange e → KeepRange j → KeepRange g
    → (it : NodeOf F S M H E J G) → KeepsRange (node_by f s m h e j g it).meaning
node_keeps_range f s m h e j g of_f of_s of_m of_h of_e of_j of_g Source = source_keeps_range
node_keeps_range f s m h e j g of_f of_s of_m of_h of_e of_j of_g (Filter k) = of_f k
node_keeps_range f s m h e j g of_f of_s of_m of_h of_e of_j of_g (Select k) = of_s k
node_keeps_range f s m h e j g of_f of_s of_m of_h of_e of_j of_g (Many k) = of_m k
node_keeps_range f s m h e j g of_f of_s of_m of_h of_e of_j of_g (Shave k) = of_h k
node_keeps_range f s m h e j g of_f of_s of_m of_h of_e of_j of_g (Set k) = of_e k
node_keeps_range f s m h e j g of_f of_s of_m of_h of_e of_j of_g (Join k) = of_j k
node_keeps_range f s m h e j g of_f of_s of_m of_h of_e of_j of_g (Group k) = of_g k
