use Rattle.std.proofs.Common.{◌≡◌, ◌∙◌, ◌-◌, ◌*◌, ◌%◌, ◌^◌, length, length-set, sym, arith}
use Rattle.std.proofs.lemmas.Option.{slice_get_within}
use Rattle.pz_store.specs.declared.digest.TheConstants.{FACTOR}
use Rattle.pz_store.proofs.Digesting.{power_more, power_none, powers_more}
use Rattle.pz_store.proofs.digest.powers.Goals as goal

pub loop-behind-init : goal.loop-behind-init
loop-behind-init c =
    let long : length c.in_ok-powers.powers.items ≡ c.args.count = sym c.in_ok-powers.powers.ok.0 ∙ c.in_ok-powers.ensures.len in
    record {
      long = long;
      power = power_none;
      each = λ index power low is. absurd (omega (arith, low, slice_get_within c.in_ok-powers.powers.items index power is, long));
    }

pub loop-behind-preserved : goal.loop-behind-preserved
loop-behind-preserved c =
    let powers = c.loop-behind.powers.items in
    let long = c.loop-behind.invariant.long in
    let power = power_more c.loop-behind.power c.loop-behind.behind c.loop-behind.invariant.power in
    record {
      long = length-set powers (c.args.count - 1 - c.loop-behind.behind) (c.loop-behind.power * FACTOR % 2 ^ 64) ∙ long;
      power = power;
      each = powers_more c.args.count c.loop-behind.behind (c.loop-behind.power * FACTOR % 2 ^ 64) powers long c.loop-behind-test.true power c.loop-behind.invariant.each;
    }

pub returns : goal.returns
returns c = record {
  long = c.loop-behind.invariant.long;
  each = λ index power is. c.loop-behind.invariant.each index power (omega (arith, c.loop-behind-test.false)) is;
}
