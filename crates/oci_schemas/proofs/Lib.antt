mod Wells
