-- Every promise of Promise.antt holds.
use Rattle.ids_rules.specs.Promise.{Promises}
use Rattle.ids_rules.proofs.Refuses.{determined, refused_is_quiet_lem, leaves_nothing_lem}
use Rattle.ids_rules.proofs.Never.{fresh_well_lem, keeps_well_lem, never_one_lem}
use Rattle.ids_rules.proofs.Once.{without_gap_lem, table_is_history_lem, never_returns_lem}
use Rattle.ids_rules.proofs.Below.{none_below_lem, none_below_early_lem}

pub promised : Promises
promised = record {
  determined = determined;
  refused_is_quiet = refused_is_quiet_lem;
  leaves_nothing = leaves_nothing_lem;
  fresh_well = fresh_well_lem;
  keeps_well = keeps_well_lem;
  never_one = never_one_lem;
  without_gap = without_gap_lem;
  table_is_history = table_is_history_lem;
  never_returns = never_returns_lem;
  none_below = none_below_lem;
  none_below_early = none_below_early_lem;
}
