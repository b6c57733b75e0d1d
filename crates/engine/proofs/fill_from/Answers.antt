-- `engine::fill_from` meets its contract: what is read are the kernels and the levels of an accepted record.
use Rattle.std.proofs.Common.{ℕ, List, ◌*◌, ◌≤◌, ◌≡◌, sym, ap, ◌∙◌, length, take, arith}
use native.Mathlib.Nat.{div-mul-le_self}
use lib.Seq.{length-take-le}
use Rattle.kernel.specs.declared.Kernel.{Kernel}
use Rattle.lists.specs.Lists.{values_of}
use Rattle.record.specs.declared.channels.Channels.{Channels}
use Rattle.record.specs.Channels.{kernel_of, kernel_in, kernels_of, observation_bytes}
use Rattle.record.specs.Body.{observations}
use Rattle.engine.proofs.Accepted.{few_channels, costs_space, starts_space}
use Rattle.engine.proofs.Solved.{observed, costs_filled, starts_filled}
use Rattle.engine.proofs.fill_from.Goals as goal

-- a place for each of its channels, and for each of its levels
places : {A : Type 0} (m : ℕ) (l : List A) → m ≤ length l → m ≡ length (take m l)
places m l h = sym (length-take-le m l h)

whole_days : (ch : Channels) (body : List ℕ) (n : ℕ) → n ≡ observations ch body → observation_bytes ch * n ≤ length body
whole_days ch body n e = omega (arith, div-mul-le_self (length body) (observation_bytes ch), ap (λ (k : ℕ). observation_bytes ch * k) e)

levels_room : (ch : Channels) (body : List ℕ) (n room : ℕ) → n ≡ observations ch body → observations ch body * ch.count ≤ room → n * ch.count ≤ room
levels_room ch body n room e h = omega (arith, h, ap (λ (k : ℕ). k * ch.count) e)

-- the kernels that are read, into a place for each channel
named : (ch : Channels) (m : ℕ) {ks : List Kernel} → ks ≡ values_of (λ c. kernel_of (kernel_in ch c)) m → m ≡ ch.count → ks ≡ kernels_of ch
named ch m e count = e ∙ ap (values_of (λ c. kernel_of (kernel_in ch c))) count

pub slice_bounds-named-end : goal.slice_bounds-named-end
slice_bounds-named-end c = few_channels c.requires.accepted

pub slice_bounds-kernels-end : goal.slice_bounds-kernels-end
slice_bounds-kernels-end c = places _ _ (few_channels c.requires.accepted)

pub observations-n-requires : goal.observations-n-requires
observations-n-requires c = let few = few_channels c.requires.accepted in omega arith

pub slice_bounds-levels-end : goal.slice_bounds-levels-end
slice_bounds-levels-end c = levels_room c.args.record.now.asked.channels c.args.record.now.body.now _ _ c.observations-n.ensures c.requires.room

pub slice_bounds-levels-end-2 : goal.slice_bounds-levels-end-2
slice_bounds-levels-end-2 c =
    places _ _ (levels_room c.args.record.now.asked.channels c.args.record.now.body.now _ _ c.observations-n.ensures c.requires.room)

pub read_levels-requires : goal.read_levels-requires
read_levels-requires c =
    let n = c.observations-n.ensures in (
      record { few = few_channels c.requires.accepted; within = whole_days c.args.record.now.asked.channels c.args.record.now.body.now _ n },
      sym (places _ _ (levels_room c.args.record.now.asked.channels c.args.record.now.body.now _ _ n c.requires.room)),
    )

pub invariant_of-days : goal.invariant_of-days
invariant_of-days c =
    let ok = c.requires.accepted in
    let n = c.observations-n.ensures in
    let l = c.read_levels.ensures in
    record {
      observed = observed ok _ _ _ (named _ _ c.read_kernels.ensures (sym (places _ _ (few_channels ok)))) n l.levels
          (l.long ∙ sym (places _ _ (levels_room c.args.record.now.asked.channels c.args.record.now.body.now _ _ n c.requires.room))) l.small;
    }

pub fill_tables-requires : goal.fill_tables-requires
fill_tables-requires c =
    let ok = c.requires.accepted in
    record { lent = rw c.observations-n.ensures (ok.fit.count.few_days, ok.fit.segments.few_segments, costs_space ok, starts_space ok) }

pub returns-clause-costs_after : goal.returns-clause-costs_after
returns-clause-costs_after c =
    let ok = c.requires.accepted in
    let kernels = named _ _ c.read_kernels.ensures (sym (places _ _ (few_channels ok))) in
    c.fill_tables.ensures.costs_after ∙ costs_filled ok _ _ _ kernels c.observations-n.ensures c.read_levels.ensures.levels _

pub returns-clause-starts_after : goal.returns-clause-starts_after
returns-clause-starts_after c =
    let ok = c.requires.accepted in
    let kernels = named _ _ c.read_kernels.ensures (sym (places _ _ (few_channels ok))) in
    c.fill_tables.ensures.starts_after ∙ starts_filled ok _ _ _ kernels c.observations-n.ensures c.read_levels.ensures.levels _
