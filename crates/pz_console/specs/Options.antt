-- The program's command line: [--workers N] [--order rows|columns] [FILE].
use Rattle.std.specs.Prelude.{ℕ, List, [], ◌∷◌, Option, Some, None, option_map, option_and_then, codes, if◌then◌else◌}
use Rattle.std.specs.Str.{bytes_eq}
use Rattle.std.specs.Str.Parse.{digits_value, without_leading_plus}
use Rattle.clap.specs.Words.{App, Kinds, Row, Rule, Text, fault_of, first_of, matches_of, new_app, new_rule, with_rule}
use Rattle.clap.specs.ValueTests.{is_unsigned_in}
use Rattle.clap.specs.declared.builder.value_parser.ValueParser.TheVariants as parser
use Rattle.pz_record.specs.declared.order.Order.{Order}
use Rattle.pz_record.specs.declared.order.Order.TheVariants.{Rows, Columns}
use Rattle.pz_console.specs.declared.options.TheConstants.{MOST_WORKERS}
use Rattle.pz_console.specs.declared.options.Chosen.{Chosen}

-- program.workers: the number of threads: 1 to as many as may be asked for, in decimal digits, and 2 by default
abbrev pub workers_of : Option Text → Option ℕ
workers_of None = Some 2
workers_of (Some text) = if is_unsigned_in 1 MOST_WORKERS text then Some (digits_value 10 (without_leading_plus text)) else None

-- the order of a level's cells: by columns by default
abbrev pub order_of : Option Text → Option Order
order_of None = Some Columns
order_of (Some text) = if bytes_eq text (codes "rows") then Some Rows else (if bytes_eq text (codes "columns") then Some Columns else None)

-- what the values of --workers, --order and FILE choose
abbrev pub choice_of : Option Text → Option Text → Option Text → Option Chosen
choice_of workers order file = option_and_then (λ n. option_map (λ o. record { options = record { workers = n; order = o }; file = file }) (order_of order)) (workers_of workers)

abbrev pub workers_rule : Rule
workers_rule = record (new_rule (codes "workers")) { long = Some (codes "workers"); parser = Some (parser.Unsigned 1 MOST_WORKERS) }

abbrev pub order_rule : Rule
order_rule = record (new_rule (codes "order")) { long = Some (codes "order") }

-- the command line as clap is told of it
abbrev pub command : App
command = with_rule (with_rule (with_rule (new_app (codes "pz_replayer")) workers_rule) order_rule) (new_rule (codes "file"))

-- the values in clap's matches of the words
abbrev pub choice_in : List Row → Option Chosen
choice_in rows = choice_of (first_of (codes "workers") rows) (first_of (codes "order") rows) (first_of (codes "file") rows)

-- nothing if clap finds a fault, such as a call for help
abbrev pub without_fault : Kinds → Option Chosen → Option Chosen
without_fault [] choice = choice
without_fault (kind ∷ kinds) choice = None

-- program.options: what the words choose; nothing: they are refused
unfoldable pub options_of : List Text → Option Chosen
options_of words = without_fault (fault_of command words) (choice_in (matches_of command words))
