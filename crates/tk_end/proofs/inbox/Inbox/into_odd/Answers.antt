use Rattle.std.proofs.Common.{◌≡◌, ◌++◌, List, ℕ, take, ap, sym, ◌∙◌, subst}
use Rattle.tk_frames.specs.Answer.{Answers, HasPayload}
use Rattle.tk_frames.specs.declared.answer.Next.TheVariants.{Bad}
use Rattle.tk_end.specs.Inbox.{IsOdd, bytes_of}
use Rattle.tk_end.proofs.OddLemmas.{odd_fields, odd_kind, odd_length}
use Rattle.tk_end.proofs.inbox.Inbox.into_odd.Goals as goal

pub returns-in-BadLength : goal.returns-in-BadLength
returns-in-BadLength c =
    let s = c.args.self in
    let in_ = c.self.inside in
    let nothing = ap (λ v. v.front) c.self.view_is ∙ c.requires.nothing in
    let all : in_.buffer.bytes ≡ s.unread = subst (λ o. bytes_of in_.buffer.version o ++ in_.buffer.bytes ≡ s.unread) nothing (ap (λ v. v.unread) c.self.view_is) in
    let bad = subst (λ f. Answers s.version s.unread (Bad f)) c.in-BadLength.is c.requires.bad in
    let odd : c.into_range.result.items ≡ take 4 s.unread = c.into_range.ensures ∙ ap (take 4) all in
    subst (λ f. IsOdd s.version f s.unread c.into_range.result.items) (sym c.in-BadLength.is) (odd_length c.in-BadLength.length s.unread c.into_range.result.items bad odd)

pub returns-in-BadKind : goal.returns-in-BadKind
returns-in-BadKind c =
    let s = c.args.self in
    let in_ = c.self.inside in
    let nothing = ap (λ v. v.front) c.self.view_is ∙ c.requires.nothing in
    let all : in_.buffer.bytes ≡ s.unread = subst (λ o. bytes_of in_.buffer.version o ++ in_.buffer.bytes ≡ s.unread) nothing (ap (λ v. v.unread) c.self.view_is) in
    let bad = subst (λ f. Answers s.version s.unread (Bad f)) c.in-BadKind.is c.requires.bad in
    subst (λ f. IsOdd s.version f s.unread c.payload.result.items) (sym c.in-BadKind.is)
    (odd_kind s.version c.in-BadKind.kind s.unread c.payload.result.items bad (subst (λ xs. (text : List ℕ) → HasPayload text xs → c.payload.result.items ≡ text) all c.payload.ensures))

pub returns : goal.returns
returns c =
    let s = c.args.self in
    let in_ = c.self.inside in
    let nothing = ap (λ v. v.front) c.self.view_is ∙ c.requires.nothing in
    let all : in_.buffer.bytes ≡ s.unread = subst (λ o. bytes_of in_.buffer.version o ++ in_.buffer.bytes ≡ s.unread) nothing (ap (λ v. v.unread) c.self.view_is) in
    let bad = subst (λ f. Answers s.version s.unread (Bad f)) c.in-BadFields.is c.requires.bad in
    subst (λ f. IsOdd s.version f s.unread c.payload-in-BadFields.result.items) (sym c.in-BadFields.is)
    (odd_fields s.version c.in-BadFields.kind s.unread c.payload-in-BadFields.result.items bad (subst (λ xs. (text : List ℕ) → HasPayload text xs → c.payload-in-BadFields.result.items ≡ text) all c.payload-in-BadFields.ensures))
