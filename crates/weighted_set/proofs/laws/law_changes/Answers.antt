use Rattle.weighted_set.proofs.ChangeLists.{change_list_leads_there, changes_are_change_list}
use Rattle.weighted_set.proofs.laws.law_changes.Goals as goal

pub returns : goal.returns
returns c = record { leads_there = change_list_leads_there; is_change_list = changes_are_change_list }
