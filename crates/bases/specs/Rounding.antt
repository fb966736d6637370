-- Document 02, L3: "for a base c, each interval becomes the largest c times a power of two not above it, the size stays, and the jitter
-- is capped at the new interval less one". Assumes nothing.
use Rattle.std.specs.Prelude.{cond, List, map, ℕ, zero, suc, ◌-◌, ◌*◌, ◌^◌, min, leb}
use Rattle.flows.specs.declared.flow.Flow.{Flow}

-- the largest of c × 2 ^ k, .., c × 2 ^ 1, c × 2 ^ 0 that is not above x; 0 where none is
unfoldable pub largest_from : (k c x : ℕ) → ℕ
largest_from zero c x = cond (leb (c * 2 ^ 0) x) (c * 2 ^ 0) 0
largest_from (suc k) c x = cond (leb (c * 2 ^ suc k) x) (c * 2 ^ suc k) (largest_from k c x)

-- the largest c times a power of two not above x; 0 where none is. The power x is enough to begin with, since 2 ^ x is over x
unfoldable pub rounded : (c x : ℕ) → ℕ
rounded c x = largest_from x c x

-- the flow with its interval rounded: "the size stays, and the jitter is capped at the new interval less one"
unfoldable pub rounded_flow : ℕ → Flow → Flow
rounded_flow c f =
    record {
      number = f.number;
      size = f.size;
      interval = rounded c f.interval;
      jitter = min f.jitter (rounded c f.interval - 1);
    }

-- the flows with their intervals rounded, in their order
unfoldable pub rounded_flows : ℕ → List Flow → List Flow
rounded_flows c fs = map (rounded_flow c) fs
