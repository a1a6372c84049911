use Rattle.std.proofs.Common.{◌≡◌, ◌∷◌, ◌++◌, [], List, None, sym, ap, ◌∙◌, subst}
use Rattle.tk_frames.specs.declared.frame.Frame.{Frame}
use Rattle.tk_journal.specs.Laws.{IsMonitor}
use Rattle.tk_journal.specs.Legal.{turn_of}
use Rattle.tk_journal.specs.Refusal.{refusal_of}
use Rattle.tk_journal.specs.Turns.{demanded}
use Rattle.tk_journal.specs.declared.noted.Noted.TheVariants as n
use Rattle.tk_journal.specs.declared.turn.Turn.{Turn}
use Rattle.tk_coord.specs.Coordinator.{CoordinatorView}
use Rattle.tk_coord.specs.Journal.{JournalView}
use Rattle.tk_coord.specs.Steps.{IsStep, with_got}
use Rattle.tk_coord.proofs.KeepLemmas.{can_reply}
use Rattle.tk_coord.proofs.NoteLemmas.{appended, kept_taken, noted_turn}
use Rattle.tk_coord.proofs.coordinator.Coordinator.note.Goals as goal

pub reply-requires : goal.reply-requires
reply-requires c =
    let f = c.self.inside in
    let j = f.journal.entries in
    let mon = c.args.mon in
    let step : IsStep f.settings j mon c.args.frame c.args.step = subst (λ (v : CoordinatorView). IsStep v.settings v.journal mon c.args.frame c.args.step) (sym c.self.view_is) c.requires.step in
    let range : IsMonitor f.settings mon.0 = subst (λ (v : CoordinatorView). IsMonitor v.settings mon.0) (sym c.self.view_is) c.requires.monitor in
    can_reply f.settings (with_got j mon c.args.frame) (demanded f.settings j mon.0 c.args.frame) c.take.new.self c.args.step.outcome.reply step.outcome.reply
    (c.take.ensures f.settings j c.args.frame step.told range c.self.invariant.0.holds)

-- the journal with the frame and what follows it
noted_of : (c : goal.After-push-2) → c.append.new.self.entries ≡ c.self.inside.journal.entries ++ n.Got c.args.mon c.args.frame ∷ c.args.step.outcome.entries.items
noted_of c =
    appended _ c.args.step.outcome.entries.items c.keep.ensures.entries (ap (λ (k : JournalView). k.entries) c.push.ensures) c.append.ensures.entries
    ∙ ap (λ (x : Frame). c.self.inside.journal.entries ++ n.Got c.args.mon x ∷ c.args.step.outcome.entries.items) c.in-Ok.ensures.ok

pub invariant_of-self-2 : goal.invariant_of-self-2
invariant_of-self-2 c =
    let f = c.self.inside in
    let j = f.journal.entries in
    let mon = c.args.mon in
    let frame = c.args.frame in
    let k = c.self.invariant.0 in
    let step : IsStep f.settings j mon frame c.args.step = subst (λ (v : CoordinatorView). IsStep v.settings v.journal mon frame c.args.step) (sym c.self.view_is) c.requires.step in
    let range : IsMonitor f.settings mon.0 = subst (λ (v : CoordinatorView). IsMonitor v.settings mon.0) (sym c.self.view_is) c.requires.monitor in
    let taken : refusal_of f.settings j mon.0 frame ≡ None = subst (λ (v : CoordinatorView). refusal_of v.settings v.journal mon.0 frame ≡ None) (sym c.self.view_is) c.requires.taken in
    let told = c.take.ensures f.settings j frame step.told range k.holds in
    let replied = c.reply.ensures f.settings (with_got j mon frame) (demanded f.settings j mon.0 frame) step.outcome.reply told in (
      kept_taken f.settings j c.append.new.self.entries mon frame c.args.step c.is_calm-calm.result f.state c.reply.new.self f.phase f.turns.list c.push-2.new.self.list
          k range taken step (noted_of c) replied c.is_calm-calm.ensures
          (c.push-2.ensures ∙ ap (λ (xs : List Turn). xs ++ record c.args.step.turn { calm = c.is_calm-calm.result } ∷ []) c.keep.ensures.list),
      c.append.ensures.monitors ∙ ap (λ (v : JournalView). v.monitors) c.push.ensures ∙ c.keep.ensures.monitors ∙ c.self.invariant.1,
    )

pub returns-clause-ok : goal.returns-clause-ok
returns-clause-ok c =
    let f = c.self.inside in
    let j = f.journal.entries in
    let mon = c.args.mon in
    let frame = c.args.frame in
    let step : IsStep f.settings j mon frame c.args.step = subst (λ (v : CoordinatorView). IsStep v.settings v.journal mon frame c.args.step) (sym c.self.view_is) c.requires.step in
    noted_turn f.settings j c.append.new.self.entries mon frame c.args.step.outcome step.outcome (noted_of c)
    ∙ ap (λ (v : CoordinatorView). v.journal ++ turn_of v.settings v.journal (n.Got mon frame)) c.self.view_is
