-- Races for the order of lines, told in one line for each time.
use Rattle.std.specs.Prelude.{ℕ, Bool, ◌==◌, List, [], ◌∷◌, ◌++◌, Option, if◌then◌else◌, map, option_map, slice_get, string_bytes}
use Rattle.std.specs.List.{filter, flat_map, fold, list_any}
use Rattle.locations.specs.declared.location.ProcessLocation.{ProcessLocation}
use Rattle.verdict.specs.OrderLines.{PlainPrinter, line_order_text}
use Rattle.naming.specs.declared.line_orders.LineOrder.{LineOrder}

-- a list with one more, unless one like it is there
abbrev pub with_one : {X : Type 0} → (X → X → Bool) → List X → X → List X
with_one is_like kept x = if list_any (is_like x) kept then kept else (kept ++ x ∷ [])

-- of a list each that no other one before it is like
abbrev pub each_once : {X : Type 0} → (X → X → Bool) → List X → List X
each_once is_like xs = fold (with_one is_like) [] xs

-- a number is this one
abbrev pub is_number : ℕ → ℕ → Bool
is_number number known = known == number

-- a race is at this time
abbrev pub is_of_time : ℕ → LineOrder → Bool
is_of_time time order = order.time == time

-- a race is at the time of another one
abbrev pub of_time : LineOrder → LineOrder → Bool
of_time order other = is_of_time order.time other

-- the two processes of a race
abbrev pub both_processes : LineOrder → List ℕ
both_processes order = order.first ∷ order.second ∷ []

-- the processes of the races at a time, each once
abbrev pub numbers_at : ℕ → List LineOrder → List ℕ
numbers_at time orders = each_once is_number (flat_map both_processes (filter (is_of_time time) orders))

-- numbers, and with them those of a race's two processes, if it is at a time
abbrev pub with_either : List ℕ → LineOrder → ℕ → List ℕ
with_either numbers order time = if order.time == time then with_one is_number (with_one is_number numbers order.first) order.second else numbers

-- where the process with a number begins, in words, if that is known
abbrev pub beginning_of : List ProcessLocation → ℕ → Option (List ℕ)
beginning_of processes number = option_map (λ process. string_bytes process.at) (slice_get processes number)

-- a process, as it is told
abbrev pub printer_of : List ProcessLocation → ℕ → PlainPrinter
printer_of processes number = record { number = number; at = beginning_of processes number }

-- the processes of the races at a time, as they are told
abbrev pub printers_at : List ProcessLocation → ℕ → List LineOrder → List PlainPrinter
printers_at processes time orders = map (printer_of processes) (numbers_at time orders)

-- the line on the time of one of the races, with the journal of that one
abbrev pub order_line : List ProcessLocation → Option (List ℕ) → List LineOrder → LineOrder → List ℕ
order_line processes prefix orders order = line_order_text order.time (printers_at processes order.time orders) prefix order.journal

-- one line for each time, with the journal of the first race at it
abbrev pub orders_text : List ProcessLocation → Option (List ℕ) → List LineOrder → List ℕ
orders_text processes prefix orders = flat_map (order_line processes prefix orders) (each_once of_time orders)
