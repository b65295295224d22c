use Rattle.std.proofs.Common.{◌≡◌, length, min, get_or, drop, sym, ap, ◌∙◌}
use Rattle.std.proofs.lemmas.List.{take_rest}
use Rattle.std.specs.List.{list_any}
use Rattle.prefix.specs.Meant.{meant}
use Rattle.prefix.specs.Prefix.{same, within}
use Rattle.rows.specs.Rows.{held}
use Rattle.policy.specs.Starts.{bucket_of}
use Rattle.policy.proofs.Beginnings.{from_start}
use Rattle.policy.proofs.Recursions.{any_of_map}
use Rattle.policy.proofs.PrefixList.candidates.Goals as goal

pub returns : goal.returns
returns c =
    let l = c.args.self.now in
    let p = meant c.args.prefix.now in
    let row = held l.prefixes in
    let n = c.min-start.result in
    let here : c.as_slice-prefixes.result.now ≡ row = c.as_slice-prefixes.ensures in
    let start : n ≡ min (get_or l.starts (bucket_of p.address) 0) (length row) = c.min-start.ensures ∙ ap (λ xs. min c.from.result (length xs)) here ∙ ap (λ s. min s (length row)) (c.from.ensures ∙ ap (λ b. get_or l.starts b 0) (c.bucket_of.ensures.value ∙ ap bucket_of c.address.ensures)) in
    let rest = take_rest c.as_slice-prefixes.result.now n ∙ ap (drop n) here in
    record {
      covered = ap (λ xs. list_any (λ q. within p (meant q)) xs) rest ∙ sym (any_of_map (within p) meant (drop n row)) ∙ (from_start l.starts row n p l.started start).0;
      listed = ap (λ xs. list_any (λ q. same p (meant q)) xs) rest ∙ sym (any_of_map (same p) meant (drop n row)) ∙ (from_start l.starts row n p l.started start).1;
    }
