use Rattle.std.proofs.Common.{◌≡◌}
use Rattle.bw_types.specs.History.{History, last_version}
use Rattle.bw_types.specs.Lawful.{IsLawful}
use Rattle.page_warehouse.specs.Events.{AreEventsOf}
use Rattle.image_check.proofs.Onward.{IsCutAt}
use Rattle.image_check.proofs.lawful.is_lawful.Given as goal

abbrev pub invariant-loop-version : goal.invariant-loop-version
invariant-loop-version l = record {
  params : l.house.params ≡ l.params;
  lawful : IsLawful l.params l.house.history;
  cut : (h : History) → AreEventsOf l.events h → last_version h ≡ l.last → IsCutAt h l.house.history l.version l.later;
}
