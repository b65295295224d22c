use Rattle.std.proofs.Common.{sym, ◌∙◌, rules}
use Rattle.message.proofs.Offers.{end, over, wrong, more}
use Rattle.message.proofs.opens.offers.Goals as goal

pub returns-in_err-field : goal.returns-in_err-field
returns-in_err-field g c = λ says h. let i = c.loop-rest.invariant says h in search (rules, over)

pub returns-in_err-found : goal.returns-in_err-found
returns-in_err-found g c = λ says h.
    let i = c.loop-rest.invariant says h in
    let o = sym (h _ _ c.offer.ensures) ∙ c.in_err-found.was in
    search (rules, wrong)

pub loop-rest-preserved : goal.loop-rest-preserved
loop-rest-preserved g c = λ says h.
    let i = c.loop-rest.invariant says h in
    let o = sym (h _ _ c.offer.ensures) ∙ c.in_ok-found.was in
    more says c.loop-rest.found c.loop-rest.rest.now c.in_ok-field.field.now c.in_ok-field.after.now c.in_ok-found.field-0 (search rules) (search rules) (search rules) (search rules) o ∙ i

pub returns : goal.returns
returns g c = λ says h. let i = c.loop-rest.invariant says h in search (rules, end)
