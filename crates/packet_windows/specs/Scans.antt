-- The windows from one packet to another, and the steps of the most bits of a window. Own choice.
use Rattle.std.specs.Prelude.{ℕ, ◌+◌, ◌-◌, ◌≤◌, ◌==◌, nat_le, List, [], ◌∷◌, ◌++◌, if◌then◌else◌}
use Rattle.packet_windows.specs.declared.windows.Entry.{Entry}
use Rattle.packet_windows.specs.declared.windows.Window.{Window}

-- ---- packets
-- times from t on do not fall
abbrev pub EnterFrom : ℕ → List Entry → Type 0
EnterFrom t [] = Unit {0}
EnterFrom t (e ∷ es) = (t ≤ e.time) × EnterFrom e.time es

-- ---- windows
-- those from `first` to each packet, it too, after so many bits
abbrev pub windows_from : ℕ → ℕ → List Entry → List Window
windows_from first bits [] = []
windows_from first bits (e ∷ es) =
    record { length = e.time - first; bits = bits + e.bits } ∷ windows_from first (bits + e.bits) es

-- those from each packet to itself and to each later one
abbrev pub windows : List Entry → List Window
windows [] = []
windows (e ∷ es) = windows_from e.time 0 (e ∷ es) ++ windows es

-- lengths from d on do not fall
abbrev pub LengthenFrom : ℕ → List Window → Type 0
LengthenFrom d [] = Unit {0}
LengthenFrom d (w ∷ ws) = (d ≤ w.length) × LengthenFrom w.length ws

-- ---- steps
-- no time, and no bits
abbrev pub no_window : Window
no_window = record { length = 0; bits = 0 }

-- the windows with more bits than each that is no longer; `last` is the one before
abbrev pub steps_after : Window → List Window → List Window
steps_after last [] = last ∷ []
steps_after last (w ∷ ws) =
    if nat_le w.bits last.bits then steps_after last ws
    else (if w.length == last.length then steps_after w ws else last ∷ steps_after w ws)

-- the length of the last of w and those after it
abbrev pub last_length : ℕ → List Window → ℕ
last_length n [] = n
last_length n (w ∷ ws) = last_length w.length ws
