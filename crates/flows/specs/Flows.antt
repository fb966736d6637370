-- Document 01's "Flows, frame and cycle": a flow, its rule (test 4) and its record. Assumes nothing.
use Rattle.std.specs.Prelude.{ℕ, Bool, cond, ◌&&◌, List, [], ◌∷◌, ltb, leb, get_or, Option, Some, None}
use Rattle.logic.specs.Numbers.{among}
use Rattle.fields.specs.declared.kind.Kind.TheVariants.{ListRecord}
use Rattle.flows.specs.declared.flow.Flow.{Flow}
use Rattle.fields.specs.Records.{packed, values_of}

-- "a number 1 to 1023, a size of 1 to 4,095 slots, an interval of 1 to 4,096 slots", "the size is at most the interval", "the
-- jitter is 0 to interval less one"
unfoldable pub keeps : Flow → Bool
keeps f =
    among 1 1023 f.number && (among 1 4095 f.size && (among 1 4096 f.interval
    && (leb f.size f.interval && ltb f.jitter f.interval)))

-- a flow out of four plain numbers, of any size
abbrev pub new_flow : ℕ → ℕ → ℕ → ℕ → Flow
new_flow number size interval jitter = record { number = number; size = size; interval = interval; jitter = jitter }

-- the flow, if it keeps its rule
abbrev pub asked : Flow → Option Flow
asked f = cond (keeps f) (Some f) None

-- what is read where there is no record
abbrev pub no_flow : Flow
no_flow = record { number = 0; size = 0; interval = 0; jitter = 0 }

-- the fields of a flow's record: number, size, interval, jitter
abbrev pub fields_of : Flow → List ℕ
fields_of f = f.number ∷ f.size ∷ f.interval ∷ f.jitter ∷ 0 ∷ 0 ∷ []

-- the flow with these fields
abbrev pub flow_with : List ℕ → Flow
flow_with vs = record { number = get_or vs 0 0; size = get_or vs 1 0; interval = get_or vs 2 0; jitter = get_or vs 3 0 }

-- the flow whose record stands at the front of the bytes
unfoldable pub flow_of : List ℕ → Flow
unfolding values_of
flow_of bs = flow_with (values_of ListRecord bs)

-- the bytes of a flow's record
unfoldable pub packed_flow : Flow → List ℕ
unfolding packed
packed_flow f = packed ListRecord (fields_of f)
