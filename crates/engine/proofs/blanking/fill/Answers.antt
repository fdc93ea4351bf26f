use Rattle.std.proofs.Common.{◌≡◌, ℕ, ◌+◌, ◌<◌, List, [], ◌∷◌, ◌++◌, length, get_or, drop, set, replicate, sym, ap, ◌∙◌, arith}
use Rattle.engine.proofs.blanking.fill.Goals as goal
use Rattle.std.proofs.lemmas.List.{append_assoc, append-nil, drop_all, drop_more, length-replicate, replicate_more, set_at}

-- one element more is filled
filled_more : {A : Type 0} (d : List A) (n : ℕ) (v : A) → n < length d
    → set (replicate n v ++ drop n d) n v ≡ replicate (n + 1) v ++ drop (n + 1) d
filled_more d n v inside =
    ap (λ ys. set (replicate n v ++ ys) n v) (drop_more d n v inside)
    ∙ set_at (replicate n v) (get_or d n v) (drop (n + 1) d) v n (length-replicate n v)
    ∙ sym (append_assoc (replicate n v) (v ∷ []) (drop (n + 1) d))
    ∙ ap (λ xs. xs ++ drop (n + 1) d) (replicate_more n v)

pub loop-x-preserved : goal.loop-x-preserved
loop-x-preserved g c =
    ap (λ xs. set xs c.loop-x.x-index c.args.value) c.loop-x.invariant
    ∙ filled_more c.args.table.now c.loop-x.x-index c.args.value (omega arith)

pub returns : goal.returns
returns g c =
    let n = c.loop-x.x-index in
    let all : length c.args.table.now ≡ n = omega arith in
    c.loop-x.invariant ∙ ap (λ ys. replicate n c.args.value ++ ys) (drop_all n c.args.table.now (omega arith))
    ∙ append-nil (replicate n c.args.value) ∙ ap (λ k. replicate k c.args.value) (sym all)
