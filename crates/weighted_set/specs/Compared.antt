-- The weights of one row in two sets, in a walk over the entries of both.
use Rattle.std.specs.Prelude.{Option, Some, None}
use Rattle.std.specs.Borrow.{Bor}
use Rattle.std.specs.Ordering.{match_ordering}
use Rattle.std.specs.declared.cmp.Ordering.TheVariants.{Less, Greater}
use Rattle.ratios.specs.Ratio.{Ratio, zero_ratio}
use Rattle.record_text.specs.Order.{row_cmp}
use Rattle.datasets.specs.Entries.{Row}
use Rattle.weighted_set.specs.declared.compared.Compared.{Compared}

-- how two rows compare, and the weights of the lower one, 0 where it has none
abbrev pub compared_rows : Row → Ratio → Row → Ratio → Compared
compared_rows row left other right =
    let order = row_cmp row other in
    record {
      order = order;
      left = match_ordering order left left zero_ratio;
      right = match_ordering order zero_ratio right right;
    }

-- the same of two entries, or of the one that is there
abbrev pub compared_entries : Option (Bor Row × Bor Ratio) → Option (Bor Row × Bor Ratio) → Option Compared
compared_entries None None = None
compared_entries None (Some f) = Some (record { order = Greater; left = zero_ratio; right = f.1.now })
compared_entries (Some e) None = Some (record { order = Less; left = e.1.now; right = zero_ratio })
compared_entries (Some e) (Some f) = Some (compared_rows e.0.now e.1.now f.0.now f.1.now)
