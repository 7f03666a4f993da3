use Rattle.std.proofs.Common.{subst, sym, ◌∙◌, ◌≡◌, cond, false, true}
use Rattle.datasets.specs.Entries.{Row, has_row, same_row}
use Rattle.session_core.proofs.RowFaults.{all_faultless, before_if_not_new, faultless_row, fits_is, not_before_if_new, repeated_row, row_noted, unfit_row}
use Rattle.session_core.proofs.exact.row_fault.Goals as goal

pub returns-then-not-fits : goal.returns-then-not-fits
returns-then-not-fits c =
    let row = c.index-rows-at.result in
    sym (unfit_row c.args.kinds c.args.rows.now c.loop-at.at row c.loop-at-test.true c.index-rows-at.is c.loop-at.invariant.faultless
    (fits_is c.fits.result row c.args.kinds c.fits.ensures ∙ c.if-not-fits.true))

pub returns-then-not-is_new : goal.returns-then-not-is_new
returns-then-not-is_new c =
    let row = c.index-rows-at.result in
    let there = before_if_not_new _ _ c.in_ok-is_new.ensures.added c.if-not-is_new.true in
    sym (repeated_row c.args.kinds c.args.rows.now c.loop-at.at row c.loop-at-test.true c.index-rows-at.is c.loop-at.invariant.faultless
    (fits_is c.fits.result row c.args.kinds c.fits.ensures ∙ c.if-not-fits.false)
    (sym (c.loop-at.invariant.before row) ∙ subst (λ x. has_row c.loop-at.before.keys x ≡ true) c.in_ok-try_copy.ensures there))

pub loop-at-preserved : goal.loop-at-preserved
loop-at-preserved c =
    let rows = c.args.rows.now in
    let row = c.index-rows-at.result in
    let absent = not_before_if_new _ _ c.in_ok-is_new.ensures.added c.if-not-is_new.false in
    record {
      faultless =
          faultless_row c.args.kinds rows c.loop-at.at row c.loop-at-test.true c.index-rows-at.is c.loop-at.invariant.faultless
          (fits_is c.fits.result row c.args.kinds c.fits.ensures ∙ c.if-not-fits.false)
          (sym (c.loop-at.invariant.before row) ∙ subst (λ x. has_row c.loop-at.before.keys x ≡ false) c.in_ok-try_copy.ensures absent);
      before =
          row_noted c.args.kinds rows c.loop-at.at row c.loop-at-test.true c.index-rows-at.is c.loop-at.invariant.faultless c.loop-at.before.keys c.insert.new.self.keys
          (subst (λ y. (x : Row) → has_row c.insert.new.self.keys x ≡ cond (same_row y x) true (has_row c.loop-at.before.keys x)) c.in_ok-try_copy.ensures c.in_ok-is_new.ensures.updates.0)
          c.loop-at.invariant.before;
    }

pub returns : goal.returns
returns c = sym (all_faultless c.args.kinds c.args.rows.now c.loop-at.at c.loop-at-test.false c.loop-at.invariant.faultless)
