-- What each query is set up with alone, or why some queries are refused.
use Rattle.std.specs.Prelude.{◌≡◌, ℕ, ◌+◌, nat_lt, if◌then◌else◌, List, [], ◌∷◌, ◌++◌, length, map, sum_by, Result, Ok, Err}
use Rattle.std.specs.List.{zip}
use Rattle.tk_base.specs.Settings.{Setup, settings_of}
use Rattle.tk_base.specs.declared.settings.SettingFault.{SettingFault}
use Rattle.tk_input.specs.Catalog.{names_with}
use Rattle.tk_input.specs.Logs.{IsCut, LogSet, beginnings, updates_of}
use Rattle.tk_input.specs.Records.{and_then, through}
use Rattle.tk_multi.specs.Projection.{logs_for, watch_of}
use Rattle.tk_multi.specs.Queries.{QueryView}
use Rattle.tk_multi.specs.declared.alone.Alone.{Alone}
use Rattle.tk_multi.specs.declared.fault.MultiFault.{MultiFault}
use Rattle.tk_multi.specs.declared.fault.MultiFault.TheVariants.{Bad, TooManyUpdates, NoMemory}

-- the settings of a query over its objects and all monitors; the coordinator's own weight is 1
abbrev pub settings_for : List (List ℕ) → ℕ → QueryView → Result Setup SettingFault
settings_for names monitors query = settings_of query.k query.epsilon 1 (length (names_with query.prefix names)) monitors

-- the settings of the query of a number, or its fault
abbrev pub settings_at : ℕ → Result Setup SettingFault → Result Setup MultiFault
settings_at q (Ok settings) = Ok settings
settings_at q (Err fault) = Err (Bad q fault)

-- the settings before with those of the next query, or its fault
abbrev pub settings_added : List (List ℕ) → ℕ → List Setup → QueryView → Result (List Setup) MultiFault
settings_added names monitors before query =
    and_then (λ settings. Ok (before ++ settings ∷ [])) (settings_at (length before + 1) (settings_for names monitors query))

-- the settings of each query, or the fault of the first that is refused
abbrev pub all_settings : List (List ℕ) → ℕ → List QueryView → Result (List Setup) MultiFault
all_settings names monitors queries = through (settings_added names monitors) [] queries

-- what a query of a prefix and of these settings runs over alone
abbrev pub alone_with : List (List ℕ) → LogSet → List ℕ → Setup → Alone
alone_with names all prefix settings = record {
  names = names_with prefix names;
  watch = watch_of prefix names;
  settings = settings;
  logs = logs_for prefix names all;
  from = beginnings (logs_for prefix names all);
}

-- the same of each of some queries, under settings of its own
abbrev pub each_with : List (List ℕ) → LogSet → List QueryView → List Setup → List Alone
each_with names all queries settings = map (λ pair. alone_with names all pair.0.prefix pair.1) (zip queries settings)

-- how many changes the logs of some queries have together
abbrev pub updates_together : List Alone → ℕ
updates_together alones = sum_by (λ alone. sum_by updates_of alone.logs.logs) alones

-- the logs of all queries together have at most 4,000,000 changes
abbrev pub few_enough : List Alone → Result (List Alone) MultiFault
few_enough alones = if nat_lt 4000000 (updates_together alones) then Err TooManyUpdates else Ok alones

-- what each query alone runs over, or why the queries are refused
abbrev pub alones_of : List (List ℕ) → LogSet → List QueryView → Result (List Alone) MultiFault
alones_of names all queries = and_then (λ settings. few_enough (each_with names all queries settings)) (all_settings names (length all.logs) queries)

-- a fault is the one that is meant, but for want of memory
abbrev pub Refuses : {A : Type 0} → MultiFault → Result A MultiFault → Type 0
Refuses (Bad query fault) meant = meant ≡ Err (Bad query fault)
Refuses TooManyUpdates meant = meant ≡ Err TooManyUpdates
Refuses NoMemory meant = Unit

-- objects, settings, logs and beginnings are of one size, so that a world may run over them
pub record AreOfOneSize (alone : Alone) : Type 0 where
  pub names : length alone.names ≡ alone.settings.objects
  pub objects : alone.logs.objects ≡ alone.settings.objects
  pub monitors : length alone.logs.logs ≡ alone.settings.monitors
  pub starts : IsCut alone.logs.logs alone.from
