use Rattle.std.proofs.Common.{length, ◌+◌, ◌*◌}
use Rattle.covering.proofs.table.Table.+parts.Given as goal

abbrev pub decreases-least_renumbered : goal.decreases-least_renumbered
decreases-least_renumbered l = 5 * length l.self.now.rows + 4

abbrev pub decreases-least_by_parts : goal.decreases-least_by_parts
decreases-least_by_parts l = 5 * length l.self.now.rows + 3

abbrev pub decreases-least_of_whole : goal.decreases-least_of_whole
decreases-least_of_whole l = 5 * length l.self.now.rows + 2

abbrev pub decreases-shortest_by_parts : goal.decreases-shortest_by_parts
decreases-shortest_by_parts l = 5 * length l.self.now.rows + 1

abbrev pub decreases-least_of_parts : goal.decreases-least_of_parts
decreases-least_of_parts l = 5 * length l.self.now.rows
