-- How much of each thing there may be.
use Rattle.std.specs.Prelude.{ℕ, ◌*◌, ◌^◌}

-- the bytes of a project's file, of a file of events and of a retained file
abbrev pub max_file_bytes : ℕ
max_file_bytes = 16 * 2 ^ 20

-- the bytes of a text that is run
abbrev pub max_text_bytes : ℕ
max_text_bytes = 64 * 2 ^ 20

-- how deep elements stand in one another in a file
abbrev pub max_element_depth : ℕ
max_element_depth = 64

-- how deep a text is
abbrev pub max_text_depth : ℕ
max_text_depth = 256

-- the POUs of a project
abbrev pub max_pous : ℕ
max_pous = 256

-- the variables of a POU
abbrev pub max_variables : ℕ
max_variables = 4096

-- the elements of a body, comments and those of vendors among them
abbrev pub max_elements : ℕ
max_elements = 4096

-- the connections of a body
abbrev pub max_connections : ℕ
max_connections = 16384

-- the connections at a pin other than a right rail's
abbrev pub max_pin_connections : ℕ
max_pin_connections = 64

-- the pins of one list of inputs, or of in-outs, of a block
abbrev pub max_pins : ℕ
max_pins = 64

-- how many instances stand in one another
abbrev pub max_instance_chain : ℕ
max_instance_chain = 16

-- the leaves of a POU
abbrev pub max_leaves : ℕ
max_leaves = 2 ^ 18

-- the parts of a POU: its elements and connections, and those of its instances
abbrev pub max_parts : ℕ
max_parts = 2 ^ 21

-- the leaves and instances of a POU of a text
abbrev pub max_text_leaves : ℕ
max_text_leaves = 2 ^ 23

-- the tasks of a resource
abbrev pub max_tasks : ℕ
max_tasks = 64

-- the instances of programs of a resource
abbrev pub max_instances : ℕ
max_instances = 16

-- the bytes of a name
abbrev pub max_name_bytes : ℕ
max_name_bytes = 128

-- the bytes of a name that a file declares
abbrev pub max_declared_name_bytes : ℕ
max_declared_name_bytes = 64

-- the time of an event, in milliseconds
abbrev pub max_event_time : ℕ
max_event_time = 2 ^ 62
