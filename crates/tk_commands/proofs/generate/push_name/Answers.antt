use Rattle.std.proofs.Common.{◌++◌, ◌∙◌, ap, codes, ℕ, List}
use Rattle.std.specs.Fmt.{decimal}
use Rattle.std.proofs.lemmas.List.{append_assoc}
use Rattle.tk_commands.proofs.generate.push_name.Goals as goal

pub returns : goal.returns
returns c =
    let text = c.args.text.now.items in
    let number = decimal c.args.object in
    c.in_ok-extend_from_slice-2.ensures.items
    ∙ ap (λ (l : List ℕ). l ++ codes "\n") (c.in_ok-push_number.ensures ∙ ap (λ (l : List ℕ). l ++ number) c.in_ok-extend_from_slice.ensures.items)
    ∙ append_assoc (text ++ codes "o") number (codes "\n")
    ∙ append_assoc text (codes "o") (number ++ codes "\n")
