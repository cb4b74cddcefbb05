-- A vector whose elements were lent.
use Rattle.std.proofs.Common.{◌≡◌, List, length, ap, arith}
use Rattle.std.specs.Global.{Vec}
use Rattle.std.specs.Vec.{with_items}
use Rattle.std.proofs.lemmas.List.{with_items_is}

-- it has what they became
pub lent_back : {X : Type 0} (v : Vec X) (lent xs : List X) → lent ≡ v.items → length lent ≡ length xs → (with_items v xs).items ≡ xs
lent_back v lent xs is same = with_items_is v xs (let e : length lent ≡ length v.items = ap length is in omega (arith, e, same, v.ok.0))
