-- Where a walk along the frames may start. Assumes nothing.
use Rattle.std.proofs.Common.{Some, None, ◌≡◌, refl, sym, ◌∙◌, true, false, List, [], ◌∷◌, ℕ, zero, suc, ◌+◌, ◌-◌, ◌≤◌, ◌<◌, add-one, arith, length, get_or, take, drop, set, length-set}
use lib.Seq.{take-set-le}
use borrow.Author.Tests.{lt-ltb, le-ltb, eq-eqb, ne_eqb, eqb-true}
use Rattle.logic.proofs.Tests.{by_test, by_lt, by_eq, true-not-false}
use Rattle.placing.specs.Rule.{past}
use Rattle.planner.specs.Cells.{over, Reached, runs, opens, Shut, Starts, first}
use Rattle.planner.proofs.Runs.{over-next, first-here, first-later, first-none}

-- ---- a frame that does not open for some slots opens for no more of them, nor when contents have grown

-- contents that are nowhere larger
abbrev Below : List ℕ → List ℕ → Type 0
Below [] [] = Unit {0}
Below [] (d ∷ ds) = ⊥
Below (c ∷ cs) [] = ⊥
Below (c ∷ cs) (d ∷ ds) = (c ≤ d) × Below cs ds

below_same : (cs : List ℕ) → Below cs cs
below_same [] = tt
below_same (c ∷ cs) = (omega arith, below_same cs)

below_set : (cs : List ℕ) (m v : ℕ) → get_or cs m 0 ≤ v → Below cs (set cs m v)
below_set [] m v h = tt
below_set (c ∷ cs) zero v h = (h, below_same cs)
below_set (c ∷ cs) (suc m) v h = (omega arith, below_set cs m v h)

below-drop : (j : ℕ) (cs ds : List ℕ) → Below cs ds → Below (drop j cs) (drop j ds)
below-drop zero cs ds b = b
below-drop (suc j) [] [] b = tt
below-drop (suc j) [] (d ∷ ds) b = absurd b
below-drop (suc j) (c ∷ cs) [] b = absurd b
below-drop (suc j) (c ∷ cs) (d ∷ ds) b = below-drop j cs ds b.1

runs_less : (φ p q : ℕ) (cs ds ls : List ℕ) → p ≤ q → Below cs ds → runs φ q ds ls ≡ true → runs φ p cs ls ≡ true
unfolding runs
runs_less φ p q [] [] ls h b e = eq-eqb p 0 (omega (arith, eqb-true q 0 e))
runs_less φ p q [] (d ∷ ds) ls h b e = absurd b
runs_less φ p q (c ∷ cs) [] ls h b e = absurd b
runs_less φ p q (c ∷ cs) (d ∷ ds) [] h b e = eq-eqb p 0 (omega (arith, eqb-true q 0 e))
runs_less φ p q (c ∷ cs) (d ∷ ds) (l ∷ ls) h b e =
    by_eq p 0
    (λ z. rw (eq-eqb p 0 z, runs))
    (λ n.
    let f = rw (ne_eqb q 0 (λ z. n (omega arith)), runs) at e in
    by_lt l q
    (λ u. let z : false ≡ true = rw (lt-ltb l q u, runs) at f in true-not-false (sym z))
    (λ u.
    let g = rw (le-ltb l q u, runs) at f in
    rw (ne_eqb p 0 n, runs) (rw (le-ltb l p (omega arith), runs) (runs_less φ (past φ p c) (past φ q d) cs ds ls (omega (arith, b.0)) b.1 g))))

opens_less : (φ s t o : ℕ) (cs ds ls : List ℕ) → s ≤ t → Below cs ds → opens φ t o ds ls ≡ true → opens φ s o cs ls ≡ true
unfolding opens
opens_less φ s t o [] [] ls h b e = true-not-false (sym e)
opens_less φ s t o [] (d ∷ ds) ls h b e = absurd b
opens_less φ s t o (c ∷ cs) [] ls h b e = absurd b
opens_less φ s t o (c ∷ cs) (d ∷ ds) [] h b e = true-not-false (sym e)
opens_less φ s t o (c ∷ cs) (d ∷ ds) (l ∷ ls) h b e =
    by_lt (o + d) φ
    (λ u.
    let g = rw (lt-ltb (o + d) φ u, opens) at e in
    rw (lt-ltb (o + c) φ (omega (arith, b.0)), opens) (runs_less φ (past φ (o + c) s) (past φ (o + d) t) cs ds ls (omega (arith, b.0)) b.1 g))
    (λ u. let z : false ≡ true = rw (le-ltb (o + d) φ u, opens) at e in true-not-false (sym z))

shut_more : (φ s t o : ℕ) (cs ds ls : List ℕ) → s ≤ t → Below cs ds → opens φ s o cs ls ≡ false → opens φ t o ds ls ≡ false
shut_more φ s t o cs ds ls h b e = by_test (opens φ t o ds ls) (λ f. true-not-false (sym (opens_less φ s t o cs ds ls h b f) ∙ e)) (λ f. f)

-- ---- where a search may start

module _ (φ : ℕ) (cs : List ℕ) where
  -- the front
  pub reached_front : Reached φ cs 0 0
  unfolding over
  reached_front = (omega arith, omega arith, refl)

  -- one frame more
  pub reached_next : (k o : ℕ) → k < length cs → Reached φ cs k o → (p : ℕ) → get_or cs k 0 < 65536 → p ≡ o + get_or cs k 0 - φ → Reached φ cs (k + 1) p
  reached_next k o h R p e q = (omega arith, omega (arith, R.1), q ∙ rw R.2 (sym (over-next φ cs k h)))

  module _ (ls : List ℕ) where
    pub starts_front : (s : ℕ) → Starts φ s cs ls 0 0
    starts_front s = (reached_front, λ j h. absurd (omega arith))

    -- the search from behind frames that do not open is the search from the front
    search_from : length ls ≡ length cs → (s k : ℕ) → k ≤ length cs → Shut φ s cs ls k
        → first φ s k (over φ 0 (take k cs)) (drop k cs) (drop k ls) ≡ first φ s 0 0 cs ls
    unfolding over
    search_from e s zero h F = refl
    search_from e s (suc k) h F =
        let o = over φ 0 (take k cs) in
        let l : k < length cs = omega arith in
        rw (sym (add-one k)) (rw (over-next φ cs k l) (sym (first-later cs ls e φ k l s o k (F k (omega arith)))))
        ∙ search_from e s k (omega arith) (λ j u. F j (omega arith))

    module _ (s k o : ℕ) (S : Starts φ s cs ls k o) where
      pub first-from : length ls ≡ length cs → first φ s k o (drop k cs) (drop k ls) ≡ first φ s 0 0 cs ls
      first-from e = rw S.0.2 (search_from e s k S.0.0 S.1)

      -- one frame more does not open
      pub starts-next : k < length cs → opens φ s o (drop k cs) (drop k ls) ≡ false → (p : ℕ) → get_or cs k 0 < 65536 → p ≡ o + get_or cs k 0 - φ → Starts φ s cs ls (k + 1) p
      starts-next h f p e q = (
        reached_next k o h S.0 p e q,
        λ j u. by_lt j k (S.1 j) (λ l. let z : j ≡ k = omega arith in rw (z, sym S.0.2) f),
      )

      -- the search ends in a frame that opens, or behind the last one
      module _ (e : length ls ≡ length cs) where
        pub found_here : k < length cs → opens φ s o (drop k cs) (drop k ls) ≡ true → Some k ≡ first φ s 0 0 cs ls
        found_here h r = sym (first-here cs ls e φ k h s o k r) ∙ first-from e

        pub found_none : length cs ≤ k → None ≡ first φ s 0 0 cs ls
        found_none h = sym (first-none cs ls e φ k s o k h) ∙ first-from e

      -- for more slots
      pub starts_more : (t : ℕ) → s ≤ t → Starts φ t cs ls k o
      starts_more t h = (S.0, λ j u. shut_more φ s t (over φ 0 (take j cs)) (drop j cs) (drop j cs) (drop j ls) h (below_same (drop j cs)) (S.1 j u))

      -- after the frame's content has grown
      pub starts-put : (v : ℕ) → get_or cs k 0 ≤ v → Starts φ s (set cs k v) ls k o
      starts-put v h = (
        (omega (arith, S.0.0, length-set cs k v), S.0.1, rw (take-set-le k cs k v (omega arith)) S.0.2),
        λ j u.
            rw (take-set-le j cs k v (omega arith))
            (shut_more φ s s (over φ 0 (take j cs)) (drop j cs) (drop j (set cs k v)) (drop j ls) (omega arith) (below-drop j cs (set cs k v) (below_set cs k v h)) (S.1 j u)),
      )
