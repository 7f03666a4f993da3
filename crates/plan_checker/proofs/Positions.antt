-- The first place of a list at which a test passes, and the source of a name.
pub use Rattle.plan_model.proofs.Positions.{is_some-position, is_some-source_named, position_found, position_none}
