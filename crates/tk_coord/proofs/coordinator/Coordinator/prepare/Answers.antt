use Rattle.std.proofs.Common.{◌≡◌, ℕ, ℤ, Bool, List, None, refl, sym, ◌∙◌, inl, inr}
use Rattle.std.proofs.lemmas.Result.{err_from_is_err_and}
use Rattle.tk_base.specs.Settings.{Setup}
use Rattle.tk_frames.specs.declared.frame.Frame.{Frame}
use Rattle.tk_frames.specs.declared.frame.Frame.TheVariants as f
use Rattle.tk_journal.specs.Refusal.{refusal_of}
use Rattle.tk_journal.specs.declared.noted.Noted.{Noted}
use Rattle.tk_journal.proofs.Accepted.{accepted_kind}
use Rattle.tk_coord.proofs.coordinator.Coordinator.prepare.Goals as goal

pub returns-in-Some-clause-refused : goal.returns-in-Some-clause-refused
returns-in-Some-clause-refused c = inr (sym c.refusal.ensures ∙ c.in-Some.is)

pub returns-in_err-on_report-in-Report-clause-refused : goal.returns-in_err-on_report-in-Report-clause-refused
returns-in_err-on_report-in-Report-clause-refused c =
    let p = err_from_is_err_and c.from_residual.result c.from_residual.ensures.1 in rw p.1 (inl (p.2, sym c.refusal.ensures ∙ c.in_default.is))

pub returns-in_err-on_values-in-Values-clause-refused : goal.returns-in_err-on_values-in-Values-clause-refused
returns-in_err-on_values-in-Values-clause-refused c =
    let p = err_from_is_err_and c.from_residual-in_err-on_values-in-Values.result c.from_residual-in_err-on_values-in-Values.ensures.1 in
    rw p.1 (inl (p.2, sym c.refusal.ensures ∙ c.in_default.is))

pub returns-in_err-on_settled-in-Settled-clause-refused : goal.returns-in_err-on_settled-in-Settled-clause-refused
returns-in_err-on_settled-in-Settled-clause-refused c =
    let p = err_from_is_err_and c.from_residual-in_err-on_settled-in-Settled.result c.from_residual-in_err-on_settled-in-Settled.ensures.1 in
    rw p.1 (inl (p.2, sym c.refusal.ensures ∙ c.in_default.is))

-- a frame of another kind is refused
others_refused : (s : Setup) (j : List Noted) (mon : ℕ) (frame : Frame) → refusal_of s j mon frame ≡ None → ((seq : ℕ) (border : ℤ) (failed : List ℕ) (values : List (ℕ × ℤ)) → frame ≡ f.Report seq border failed values → ⊥)
    → ((round seq : ℕ) (border : ℤ) (values : List (ℕ × ℤ)) → frame ≡ f.Values round seq border values → ⊥) → ((seq : ℕ) (last : Bool) (places : List ℕ) → frame ≡ f.Settled seq last places → ⊥) → ⊥
others_refused s j mon (f.Report seq border failed values) none reports values' settled = reports seq border failed values refl
others_refused s j mon (f.Values round seq border values) none reports values' settled = values' round seq border values refl
others_refused s j mon (f.Settled seq last places) none reports values' settled = settled seq last places refl
others_refused s j mon (f.Hello run version m) none reports values' settled = let kind = (accepted_kind s j mon (f.Hello run version m) none).1 in cc
others_refused s j mon (f.Collect round asked) none reports values' settled = let kind = (accepted_kind s j mon (f.Collect round asked) none).1 in cc
others_refused s j mon (f.Assign seq members changes) none reports values' settled = let kind = (accepted_kind s j mon (f.Assign seq members changes) none).1 in cc
others_refused s j mon f.Stop none reports values' settled = let kind = (accepted_kind s j mon f.Stop none).1 in cc

pub unreachable-requires : goal.unreachable-requires
unreachable-requires c =
    others_refused c.args.self.now.settings c.args.self.now.journal c.args.mon.0 c.args.frame.now (sym c.refusal.ensures ∙ c.in_default.is)
    c.in_default-frame.not-Report c.in_default-frame.not-Values c.in_default-frame.not-Settled
