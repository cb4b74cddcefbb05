use Rattle.std.proofs.Common.{◌≡◌, ◌+◌, ◌++◌, ap, length, take, decimal, rules, arith, ◌∙◌}
use Rattle.std.proofs.lemmas.Fmt.{length-decimal-le}
use Rattle.std.proofs.lemmas.List.{length-take-le}
use Rattle.amr_io.proofs.Behind.{digits_behind}
use Rattle.amr_io.proofs.text.Text.append_number.Goals as goal

pub overflow_add-end : goal.overflow_add-end
overflow_add-end c = search (rules, length-decimal-le 20 c.args.n (omega arith) (omega arith) c.ranges.n.fits)

pub write_digits-requires : goal.write_digits-requires
write_digits-requires c =
    let view : take c.self.inside.len c.self.inside.kept ≡ c.args.self.now = cc in
    let kept : length c.args.self.now ≡ c.self.inside.len = omega (arith, ap length view, length-take-le c.self.inside.len c.self.inside.kept (omega arith)) in
    (omega (arith, c.count_digits.ensures), omega (arith, kept, c.requires, c.count_digits.ensures, length-decimal-le 20 c.args.n (omega arith) (omega arith) c.ranges.n.fits))

pub returns : goal.returns
returns c =
    let view : take c.self.inside.len c.self.inside.kept ≡ c.args.self.now = cc in
    let d = c.write_digits.ensures in
    digits_behind c.self.inside.kept c.write_digits.new.buf (decimal c.args.n) c.self.inside.len c.write_digits.result (c.self.inside.len + c.count_digits.result) (omega arith) (ap (λ k. c.self.inside.len + k) c.count_digits.ensures) d.start d.written d.before
    ∙ ap (λ l. l ++ decimal c.args.n) view
