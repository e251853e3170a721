use Rattle.std.proofs.Common.{◌≡◌, ◌+◌, ◌*◌, ◌≤◌, ◌++◌, length, take}
use Rattle.std.specs.List.{flat_map}
use Rattle.tape.specs.Lines.{blank, longest_item}
use Rattle.tape.proofs.lines.add_items.Given as goal

abbrev pub invariant-loop-item : goal.invariant-loop-item
invariant-loop-item g l = record {
  text : l.draft ≡ l.initial.draft ++ flat_map (λ x. blank (g.S.Shown.text x)) (take l.item-index l.items);
  bound : length l.draft ≤ length l.initial.draft + (longest_item + 1) * l.item-index;
}
