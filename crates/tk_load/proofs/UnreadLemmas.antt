-- A file that is told to be unreadable is one of the words, and its faults rose.
use Rattle.std.proofs.Common.{◌≡◌, ℕ, suc, ◌+◌, Bool, true, false, if◌then◌else◌, List, [], ◌∷◌, ◌++◌, All, Option, Some, None, IfSome, option_map, Result, Ok, Err, length, map, refl, subst, arith, inl, inr}
use Rattle.std.specs.Prelude.{◌⊎◌, ◌&&◌, Contains, nat_le, nat_lt}
use Rattle.std.specs.List.{zip}
use Rattle.std.proofs.lemmas.List.Elements.{All-head, Contains-append_left, Contains-append_right}
use Rattle.tk_base.specs.Settings.{Setup, settings_of}
use Rattle.tk_input.specs.Catalog.{catalog_of}
use Rattle.tk_input.specs.Files.{HasRisen}
use Rattle.tk_input.specs.Judged.{logs_of}
use Rattle.tk_input.specs.Log.{log_of as changes_of}
use Rattle.tk_input.specs.Logs.{LogSet}
use Rattle.tk_input.specs.Order.{OrderView, order_of}
use Rattle.tk_input.specs.Records.{through}
use Rattle.tk_input.specs.declared.catalog.CatalogFault.{CatalogFault}
use Rattle.tk_input.specs.declared.catalog.CatalogFault.TheVariants as c
use Rattle.tk_input.specs.declared.event.Event.{Event}
use Rattle.tk_input.specs.declared.logs.LogsFault.{LogsFault}
use Rattle.tk_input.specs.declared.logs.LogsFault.TheVariants as l
use Rattle.tk_input.specs.declared.order.OrderFault.{OrderFault}
use Rattle.tk_input.specs.declared.order.OrderFault.TheVariants as o
use Rattle.tk_input.specs.declared.part.PartFault.{PartFault}
use Rattle.tk_input.specs.declared.part.PartFault.TheVariants as p
use Rattle.tk_words.specs.Words.{SourceWords}
use Rattle.tk_load.specs.Faults.{Fault, after, bad_file, bad_whole, catalog_fault, expand_fault, log_fault, logs_fault, order_fault, setting_fault, telling}
use Rattle.tk_load.specs.Faults.Fault.{Unread}
use Rattle.tk_load.specs.Input.{File, ReadWords, bad_line, bytes_from, bytes_in, changes_after, changes_in, count_of, counted, basis_of, ends_with, greatest_monitor, input_of, input_with, joined, limits_in, log_added, log_from, logs_in, names_in, order_from, order_in, order_of_bytes, retune_kind, retune_tested, retunes_tested, settings_in, together, width_in}
use Rattle.tk_load.specs.Reads.{AreRead, FileReads, Gave, IsRead, Loads, log_of, words_of}
use Rattle.tk_load.specs.Told.{IsCounted, files_of, only}
use Rattle.tk_window.specs.TickEnds.{Sources, parts_in}
use Rattle.tk_window.specs.Ticks.{ticked_of}
use Rattle.tk_window.specs.Window.{Expansion, expanded_of}
use Rattle.tk_window.specs.declared.fault.ExpandFault.{ExpandFault}
use Rattle.tk_window.specs.declared.fault.ExpandFault.TheVariants as e
use Rattle.tk_load.specs.declared.basis.Basis.{Basis}
use Rattle.tk_load.specs.declared.changes.Together.{Together}
use Rattle.tk_load.specs.declared.input.Input.{Input}
use Rattle.tk_load.specs.declared.settings.Limits.{Limits}
use Rattle.tk_load.specs.declared.status.InputKind.{InputKind}
use Rattle.tk_load.specs.declared.status.InputKind.TheVariants as k
use Rattle.tk_load.specs.declared.status.Status.{Status}
use Rattle.tk_load.specs.declared.status.Status.TheVariants as s

module _ (n : List ℕ) where
  abbrev Unreads : {V : Type 0} → Result V Fault → Type 0
  Unreads r = r ≡ Err (Unread n)

  -- it is the first rule, or one after it
  pub either : {V W : Type 0} (first : Result V Fault) (next : V → Result W Fault) → Unreads (after first next) → Unreads first ⊎ ((x : V) × (first ≡ Ok x) × Unreads (next x))
  either (Ok x) next is = inr (x, refl, is)
  either (Err e) next is = inl (cc (is))

  pub not_telling : {V E : Type 0} (fault : E → Fault) (r : Result V E) → ((e : E) → fault e ≡ Unread n → ⊥) → Unreads (telling fault r) → ⊥
  not_telling fault (Ok x) other is = cc (is)
  not_telling fault (Err e) other is = other e (cc (is))

  pub catalog_other : (file : List ℕ) (e : CatalogFault) → catalog_fault file e ≡ Unread n → ⊥
  catalog_other file c.Empty is = cc (is)
  catalog_other file c.TooMany is = cc (is)
  catalog_other file (c.BadRow m) is = cc (is)
  catalog_other file (c.BadName m) is = cc (is)
  catalog_other file (c.Repeated m) is = cc (is)
  catalog_other file c.NoMemory is = cc (is)

  log_other : (file : List ℕ) (e : PartFault) → log_fault file e ≡ Unread n → ⊥
  log_other file p.TooMany is = cc (is)
  log_other file (p.BadRow m) is = cc (is)
  log_other file (p.UnknownName m) is = cc (is)
  log_other file (p.BadNumber m) is = cc (is)
  log_other file p.NoMemory is = cc (is)

  expand_other : (file : List ℕ) (fault : ExpandFault) → expand_fault file fault ≡ Unread n → ⊥
  expand_other file (e.TooLong m) is = cc (is)
  expand_other file e.NoMemory is = cc (is)

  pub order_other : (file : List ℕ) (e : OrderFault) → order_fault file e ≡ Unread n → ⊥
  order_other file (o.BadOrder m) is = cc (is)
  order_other file o.NoMemory is = cc (is)

  pub logs_other : (e : LogsFault) → logs_fault e ≡ Unread n → ⊥
  logs_other (l.MonitorGap mon) is = cc (is)
  logs_other (l.TooManyFeeders mon) is = cc (is)
  logs_other l.TooManyUpdates is = cc (is)
  logs_other (l.TooGreat mon obj) is = cc (is)
  logs_other l.NoMemory is = cc (is)

  -- a file that was not read
  abbrev IsLost : File → Type 0
  IsLost file = (file.name ≡ n) × (file.content ≡ None)

  not_long : (long : Bool) (name bytes : List ℕ) → Unreads (if long then Err (bad_file name k.TooLong) else Ok bytes) → ⊥
  not_long true name bytes is = cc (is)
  not_long false name bytes is = cc (is)

  bytes_lost : (name : List ℕ) (content : Option (List ℕ)) → Unreads (bytes_from name content) → (name ≡ n) × (content ≡ None)
  bytes_lost name None is = (cc (is), refl)
  bytes_lost name (Some bytes) is = absurd (not_long (nat_lt 67108864 (length bytes)) name bytes is)

  names_lost : (file : File) → Unreads (names_in file) → IsLost file
  names_lost file is = elim (either (bytes_in file) (λ bytes. telling (catalog_fault file.name) (catalog_of bytes)) is) [
    | inl lost ↦ bytes_lost file.name file.content lost
    | inr next ↦ absurd (not_telling (catalog_fault file.name) (catalog_of next.0) (catalog_other file.name) next.2)
  ]

  not_counted : (many : Bool) (name : List ℕ) (log : Expansion) → Unreads (if many then Err (bad_file name k.TooManyUpdates) else Ok log) → ⊥
  not_counted true name log is = cc (is)
  not_counted false name log is = cc (is)

  -- what comes after the bytes of a log
  pub not_log : (width : Option ℕ) (names : List (List ℕ)) (name bytes : List ℕ) → Unreads (log_from width names name bytes) → ⊥
  not_log None names name bytes is = elim (either (telling (log_fault name) (changes_of names bytes)) (λ changes. Ok (record { part = changes; ends = [] })) is) [
    | inl lost ↦ not_telling (log_fault name) (changes_of names bytes) (log_other name) lost
    | inr next ↦ let ok = next.2 in cc (ok)
  ]
  not_log (Some width) names name bytes is = elim (either (telling (log_fault name) (ticked_of names bytes)) (λ ticks. telling (expand_fault name) (expanded_of width ticks)) is) [
    | inl lost ↦ not_telling (log_fault name) (ticked_of names bytes) (log_other name) lost
    | inr next ↦ not_telling (expand_fault name) (expanded_of width next.0) (expand_other name) next.2
  ]

  changes_lost : (width : Option ℕ) (names : List (List ℕ)) (file : File) → Unreads (changes_in width names file) → IsLost file
  changes_lost width names file is = elim (either (bytes_in file) (log_from width names file.name) is) [
    | inl lost ↦ bytes_lost file.name file.content lost
    | inr next ↦ absurd (not_log width names file.name next.0 next.2)
  ]

  after_lost : (before : ℕ) (width : Option ℕ) (names : List (List ℕ)) (file : File) → Unreads (changes_after before width names file) → IsLost file
  after_lost before width names file is = elim (either (changes_in width names file) (counted before file.name) is) [
    | inl lost ↦ changes_lost width names file lost
    | inr next ↦ absurd (not_counted (nat_lt 4000000 (before + length next.0.part)) file.name next.0 next.2)
  ]

  log_lost : (width : Option ℕ) (names : List (List ℕ)) (before : Sources) (log : ℕ × File) → Unreads (log_added width names before log) → IsLost log.1
  log_lost width names before log is = elim (either (changes_after (count_of before) width names log.1) (λ changes. Ok (before ++ (record { 0 = log.0 }, changes) ∷ [])) is) [
    | inl lost ↦ after_lost (count_of before) width names log.1 lost
    | inr next ↦ let ok = next.2 in absurd (cc (ok))
  ]

  module _ (reads : FileReads) where
    -- its faults rose
    risen : (file : File) → IsLost file → IsRead reads file → HasRisen (reads.failed n) (reads.failed_then n)
    risen file lost read =
        subst (λ (name : List ℕ). HasRisen (reads.failed name) (reads.failed_then name)) lost.0
        (subst (λ (content : Option (List ℕ)). Gave (reads.told file.name) (reads.failed file.name) (reads.failed_then file.name) (reads.longest file.name) content) lost.1 read)

    abbrev Found : List (List ℕ) → Type 0
    Found names = Contains names n × HasRisen (reads.failed n) (reads.failed_then n)

    behind : (name : List ℕ) (names : List (List ℕ)) → Found names → Found (name ∷ names)
    behind name names found = let inside = found.0.1 in ((suc found.0.0, omega (arith, inside), found.0.2), found.1)

    here : (file : File) (names : List (List ℕ)) → IsLost file → IsRead reads file → Found (file.name ∷ names)
    here file names lost read = ((0, omega arith, lost.0), risen file lost read)

    logs_lost : (width : Option ℕ) (names : List (List ℕ)) (before : Sources) (logs : List (ℕ × File)) → Unreads (through (log_added width names) before logs) → All (λ (log : ℕ × File). IsRead reads log.1) logs → Found (map (λ log. log.1) (map log_of logs))
    unfolding through
    logs_lost width names before [] is read = absurd (cc (is))
    logs_lost width names before (log ∷ logs) is read = elim (either (log_added width names before log) (λ mid. through (log_added width names) mid logs) is) [
      | inl lost ↦ here log.1 (map (λ (l : ℕ × List ℕ). l.1) (map log_of logs)) (log_lost width names before log lost) (All-head (λ (l : ℕ × File). IsRead reads l.1) log logs read)
      | inr next ↦ behind log.1.name (map (λ (l : ℕ × List ℕ). l.1) (map log_of logs)) (logs_lost width names next.0 logs next.2 (λ k d within. read (suc k) d (omega arith)))
    ]

    not_line : (name : List ℕ) (line : ℕ) (kind : Option InputKind) → Unreads (bad_line name line kind) → ⊥
    not_line name line None is = cc (is)
    not_line name line (Some kind) is = cc (is)

    not_retunes : (s : Setup) (name : List ℕ) (done : Unit {0}) (events : List (Event × ℕ)) → Unreads (through (retune_tested s name) done events) → ⊥
    unfolding through
    not_retunes s name done [] is = cc (is)
    not_retunes s name done (event ∷ events) is = elim (either (retune_tested s name done event) (λ mid. through (retune_tested s name) mid events) is) [
      | inl lost ↦ not_line name event.1 (retune_kind s event.0) lost
      | inr next ↦ not_retunes s name next.0 events next.2
    ]

    not_order : (s : Setup) (name : List ℕ) (order : OrderView) → Unreads (after (retunes_tested s name order) (λ done. Ok order)) → ⊥
    not_order s name order is = elim (either (retunes_tested s name order) (λ done. Ok order) is) [
      | inl lost ↦ not_retunes s name tt (zip order.events order.lines) lost
      | inr next ↦ let ok = next.2 in cc (ok)
    ]

    pub not_bytes : (s : Setup) (name bytes : List ℕ) → Unreads (order_of_bytes s name bytes) → ⊥
    not_bytes s name bytes is = elim (either (telling (order_fault name) (order_of bytes)) (λ order. after (retunes_tested s name order) (λ done. Ok order)) is) [
      | inl lost ↦ not_telling (order_fault name) (order_of bytes) (order_other name) lost
      | inr next ↦ not_order s name next.0 next.2
    ]

    file_lost : (s : Setup) (file : File) → Unreads (order_from s file) → IsLost file
    file_lost s file is = elim (either (bytes_in file) (order_of_bytes s file.name) is) [
      | inl lost ↦ bytes_lost file.name file.content lost
      | inr next ↦ absurd (not_bytes s file.name next.0 next.2)
    ]

    order_lost : (s : Setup) (order : Option File) → Unreads (order_in s order) → IfSome order (IsRead reads) → Found (only (option_map (λ f. f.name) order))
    order_lost s None is read = absurd (cc (is))
    order_lost s (Some file) is read = elim (either (order_from s file) (λ order. Ok (Some order)) is) [
      | inl lost ↦ here file [] (file_lost s file lost) read
      | inr next ↦ let ok = next.2 in absurd (cc (ok))
    ]

    -- ---- the whole work

    abbrev whole : List (List ℕ) → Limits → Together → Result Basis Fault
    whole names limits all = Ok (record { names = names; settings = limits.settings; logs = all.logs; ends = all.ends })

    abbrev from_logs : List (List ℕ) → Limits → Sources → Result Basis Fault
    from_logs names limits logs = after (together limits.width logs (length names)) (whole names limits)

    abbrev from_settings : ReadWords → List (List ℕ) → Limits → Result Basis Fault
    from_settings read names limits = after (logs_in limits.width names read.logs) (from_logs names limits)

    abbrev limits_at : ReadWords → List (List ℕ) → Result Limits Fault
    limits_at read names = limits_in read.k read.epsilon read.own_weight read.width (length names) (greatest_monitor read.logs)

    abbrev from_names : ReadWords → List (List ℕ) → Result Basis Fault
    from_names read names = after (limits_at read names) (from_settings read names)

    not_width : (width : Option ℕ) → Unreads (width_in width) → ⊥
    not_width None is = cc (is)
    not_width (Some width) is = go (nat_lt 0 width && nat_le width 1000000) is
      where
        go : (b : Bool) → Unreads (if b then Ok (Some width) else Err (bad_whole k.BadWidth)) → ⊥
        go true is = cc (is)
        go false is = cc (is)

    abbrev limited : Setup → Option ℕ → Result Limits Fault
    limited settings tested = Ok (record { settings = settings; width = tested })

    not_limits : (settings : Setup) (width : Option ℕ) → Unreads (after (width_in width) (limited settings)) → ⊥
    not_limits settings width is = elim (either (width_in width) (limited settings) is) [
      | inl lost ↦ not_width width lost
      | inr next ↦ let ok = next.2 in cc (ok)
    ]

    abbrev joined_with : Option ℕ → Sources → LogSet → Result Together Fault
    joined_with width logs all = Ok (record { logs = all; ends = ends_with width logs })

    not_together : (width : Option ℕ) (logs : Sources) (objects : ℕ) → Unreads (together width logs objects) → ⊥
    not_together width logs objects is = elim (either (joined (parts_in logs) objects) (joined_with width logs) is) [
      | inl lost ↦ not_telling logs_fault (logs_of (parts_in logs) objects) logs_other lost
      | inr next ↦ let ok = next.2 in cc (ok)
    ]

    -- the files of the logs and of the order
    abbrev log_files : ReadWords → List (List ℕ)
    log_files read = map (λ log. log.1) (map log_of read.logs)

    abbrev order_file : ReadWords → List (List ℕ)
    order_file read = only (option_map (λ f. f.name) read.order)

    pub limits_lost : (read : ReadWords) (names : List (List ℕ)) → Unreads (limits_at read names) → ⊥
    limits_lost read names is = elim (either (settings_in read.k read.epsilon read.own_weight (length names) (greatest_monitor read.logs)) (λ settings. after (width_in read.width) (limited settings)) is) [
      | inl lost ↦ not_telling setting_fault (settings_of read.k read.epsilon read.own_weight (length names) (greatest_monitor read.logs)) (λ e same. cc (same)) lost
      | inr next ↦ not_limits next.0 read.width next.2
    ]

    pub joined_lost : (names : List (List ℕ)) (s : Limits) (logs : Sources) → Unreads (from_logs names s logs) → ⊥
    joined_lost names s logs is = elim (either (together s.width logs (length names)) (whole names s) is) [
      | inl lost ↦ not_together s.width logs (length names) lost
      | inr next ↦ let ok = next.2 in cc (ok)
    ]

    module _ (read : ReadWords) (are : AreRead reads (words_of read) read) where
      parts_lost : (names : List (List ℕ)) (s : Limits) → Unreads (from_settings read names s) → Found (log_files read)
      parts_lost names s is = elim (either (logs_in s.width names read.logs) (from_logs names s) is) [
        | inl lost ↦ logs_lost s.width names [] read.logs lost are.logs
        | inr next ↦ absurd (joined_lost names s next.0 next.2)
      ]

      settings_lost : (names : List (List ℕ)) → Unreads (from_names read names) → Found (log_files read)
      settings_lost names is = elim (either (limits_at read names) (from_settings read names) is) [
        | inl lost ↦ absurd (limits_lost read names lost)
        | inr next ↦ parts_lost names next.0 next.2
      ]

      basis_lost : Unreads (basis_of read) → Found (read.objects.name ∷ log_files read)
      basis_lost is = elim (either (names_in read.objects) (from_names read) is) [
        | inl lost ↦ here read.objects (log_files read) (names_lost read.objects lost) are.objects
        | inr next ↦ behind read.objects.name (log_files read) (settings_lost next.0 next.2)
      ]

      abbrev from_order : Basis → Result Input Fault
      from_order basis = after (order_in basis.settings read.order) (λ order. Ok (input_with basis order))

      -- so it is one of them, or that of the order
      order_then : (basis : Basis) → Unreads (from_order basis) → Found (order_file read)
      order_then basis is = elim (either (order_in basis.settings read.order) (λ order. Ok (input_with basis order)) is) [
        | inl lost ↦ order_lost basis.settings read.order lost are.order
        | inr next ↦ let ok = next.2 in absurd (cc (ok))
      ]

      input_lost : Unreads (input_of read) → Found (files_of (words_of read))
      input_lost is = elim (either (basis_of read) from_order is) [
        | inl lost ↦ let found = basis_lost lost in (Contains-append_left (read.objects.name ∷ log_files read) (order_file read) n found.0, found.1)
        | inr next ↦ let found = order_then next.0 next.2 in (Contains-append_right (read.objects.name ∷ log_files read) (order_file read) n found.0, found.1)
      ]

    lost_of : (words : SourceWords) (read : ReadWords) → words_of read ≡ words → AreRead reads words read → Unreads (input_of read) → Found (files_of words)
    lost_of words read same are is =
        subst (λ (w : SourceWords). Found (files_of w)) same (input_lost read (record { same = refl; objects = are.objects; logs = are.logs; order = are.order }) is)

-- a file that is told to be unreadable
pub unread_is_lost : (reads : FileReads) (words : SourceWords) (status : Status) → Loads reads words (Err status) → IsCounted reads words status
unread_is_lost reads words (s.ReadFault file) loads = lost_of file.items reads words loads.read loads.are_read.same loads.are_read loads.meets
unread_is_lost reads words s.Done loads = tt
unread_is_lost reads words s.Usage loads = tt
unread_is_lost reads words (s.BadInput file line kind) loads = tt
unread_is_lost reads words (s.TooGreat mon obj) loads = tt
unread_is_lost reads words s.WriteFault loads = tt
unread_is_lost reads words s.NoMemory loads = tt
unread_is_lost reads words s.LinkFault loads = tt
unread_is_lost reads words (s.LinkDiffers difference) loads = tt
unread_is_lost reads words (s.BadTrace file fault) loads = tt
