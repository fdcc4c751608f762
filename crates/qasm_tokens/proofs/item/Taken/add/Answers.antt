use Rattle.std.proofs.Common.{◌≡◌, ℕ, ◌++◌, ◌∷◌, [], List, map, reverse, sym, ◌∙◌, ap}
use Rattle.std.specs.Str.{chars}
use Rattle.std.proofs.lemmas.List.{map-append}
use denote.Bor.{Bor}
use Rattle.qasm_tokens.specs.declared.token.Mark.{Mark}
use Rattle.qasm_tokens.specs.Items.{reach}
use Rattle.qasm_tokens.specs.Upcoming.{with_parts}
use Rattle.qasm_tokens.specs.Cursors.{mark_of}
use Rattle.qasm_tokens.specs.Taken.{item_of, so_far}
use Rattle.qasm_tokens.proofs.Added.{line_on}
use Rattle.qasm_tokens.proofs.item.Taken.add.Goals as goal

pushed : (ls ms : List (Bor (List ℕ))) (l : Bor (List ℕ)) → ms ≡ ls ++ (l ∷ []) → map (λ b. chars b.now) ms ≡ map (λ b. chars b.now) ls ++ (chars l.now ∷ [])
pushed ls ms l e = ap (map (λ b. chars b.now)) e ∙ map-append (λ b. chars b.now) ls (l ∷ [])

pub returns-in_ok-push-in-Line-clause-item : goal.returns-in_ok-push-in-Line-clause-item
returns-in_ok-push-in-Line-clause-item c =
    let xs = reverse c.args.stack.now.items in
    let ts = (item_of c.args.self.now).tokens in
    λ end ms.
    ap (λ (m : Mark). so_far c.args.self.now (reach end xs (mark_of m ∷ ms))) c.in-Line.is
    ∙ line_on (item_of c.args.self.now).lines ts xs (chars c.in-Line.text.now) end ms
    ∙ ap (λ (ls : List (List ℕ)). with_parts ls ts (reach end xs ms)) (sym (pushed c.args.self.now.lines.items c.push.new.self.items c.in-Line.text c.in_ok-push-in-Line.ensures.items))
