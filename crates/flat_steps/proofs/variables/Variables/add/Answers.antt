use Rattle.std.proofs.Common.{◌≡◌, ℕ, suc, ◌<◌, ◌-◌, nat_eq, false, [], length, reverse, get_or, sym, ap, ◌∙◌, arith}
use Rattle.std.proofs.lemmas.List.{length-reverse}
use Rattle.std.proofs.lemmas.Result.{on_ok_weaker}
use Rattle.silq_mean.specs.Env.{is_in_reach}
use Rattle.indexmap.specs.IndexMap.{get}
use Rattle.flat_steps.specs.declared.variables.Place.{Place}
use Rattle.flat_steps.proofs.Places.{first_to, at_block}
use Rattle.flat_steps.proofs.Told.{tells_added}
use Rattle.flat_steps.proofs.variables.Variables.add.Goals as goal

pub invariant_of-self-2 : goal.invariant_of-self-2
invariant_of-self-2 c =
    let x = c.args.name in let b = c.index_mut-innermost.result.now in let bs = c.self.inside.blocks.items in let i : ℕ = c.len-block.result - 1 in
    let some : length c.args.self.now ≡ length bs = ap length (sym c.self.view_is) ∙ length-reverse bs in
    let opened : 0 < length c.args.self.now = c.requires.open in
    let l : suc i ≡ length bs = omega (arith, c.self.inside.blocks.ok.0, some, opened) in
    let low : i < length bs = omega (arith, l) in
    let here : get_or bs i [] ≡ b = at_block bs i b low c.index_mut-innermost.ensures.value in
    let there : get_or bs i [] ≡ c.index.result.now = at_block bs i c.index.result.now low c.index.ensures in
    let count : c.len-number.result ≡ length c.behind-self.inside.items.items = omega (arith, c.behind-self.inside.items.ok.0) in
    let number : c.len-number.result ≡ length b = count ∙ ap length (c.behind-self.view_is ∙ sym there ∙ here) in
    let out : is_in_reach (reverse bs) x ≡ false = ap (λ z. is_in_reach z x) c.self.view_is ∙ c.requires.new in
    let p : Place = record { block = i; number = c.len-number.result } in
    let place : p ≡ record { block = i; number = length b } = ap (λ (k : ℕ). let q : Place = record { block = i; number = k } in q) number in
    tells_added (λ (k : ℕ). get nat_eq c.self.inside.places k) (λ (k : ℕ). get nat_eq c.insert.new.self k) bs x i c.args.known b c.define.new.self p c.define.result c.self.invariant out low here place c.in_ok-insert.ensures.updates.0 c.define.ensures.ok c.define.ensures.err

pub returns : goal.returns
returns c =
    let x = c.args.name in let b = c.index_mut-innermost.result.now in let bs = c.self.inside.blocks.items in let i : ℕ = c.len-block.result - 1 in
    let some : length c.args.self.now ≡ length bs = ap length (sym c.self.view_is) ∙ length-reverse bs in
    let opened : 0 < length c.args.self.now = c.requires.open in
    let l : suc i ≡ length bs = omega (arith, c.self.inside.blocks.ok.0, some, opened) in
    on_ok_weaker c.define.result (λ f. first_to bs x i c.args.known b c.define.new.self c.args.self.now l c.index_mut-innermost.ensures.value f c.self.view_is) c.define.ensures.ok
