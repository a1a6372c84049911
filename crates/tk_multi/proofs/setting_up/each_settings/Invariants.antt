use Rattle.std.proofs.Common.{◌≡◌, length, drop}
use Rattle.tk_input.specs.Records.{through}
use Rattle.tk_multi.specs.Alone.{all_settings, settings_added}
use Rattle.tk_multi.proofs.setting_up.each_settings.Given as goal

-- what is left adds to the settings so far what all queries add to none
abbrev pub invariant-loop-query : goal.invariant-loop-query
invariant-loop-query l = record {
  same : through (settings_added l.names l.monitors) l.list.items (drop l.query-index l.queries) ≡ all_settings l.names l.monitors l.queries;
  count : length l.list.items ≡ l.query-index;
}
